-- Each turn takes the first of the lines that are left, and the panel decides at the end.
use Rattle.std.proofs.Common.{◌≡◌, ◌+◌, true, false, [], ◌∷◌, length, take, drop, Ok, Err, sym, ap, ◌∙◌, subst, arith, rules, tests}
use native.Mathlib.Nat.{sub-zero}
use Rattle.std.proofs.lemmas.Result.{err_from_is_err_and, IfOk-from_err}
use Rattle.std.proofs.lemmas.Iterator.Consumers.{YieldsList-at}
use Rattle.std.proofs.lemmas.Iterator.Splits.{YieldsList-from_slice_split}
use Rattle.sheet.specs.Format.{pieces}
use Rattle.sheet.specs.Meaning.{Reading, added, read_lines, has_panel, answered, over}
use Rattle.sheet.proofs.Splits.{took_at, none_left}
use Rattle.sheet.proofs.Steps.{Sofar, no_names, start, room, again, stop, full, written, at_most, whole_sheet}
use Rattle.sheet.proofs.read_lines.Goals as goal
use Rattle.sheet.proofs.read_lines.Goals.{In-Some, In-Some-line, In_ok-entries, In-None}

-- the first line, and the others
split : (c : goal.In-Some) → pieces 10 c.args.text.now ≡ c.in-Some.first.now ∷ drop 1 (pieces 10 c.args.text.now)
split c =
    (took_at c.split-lines.result c.next.new.self c.in-Some.first (pieces 10 c.args.text.now) 0
    (YieldsList-from_slice_split _ _ c.args.text.now c.split-lines.ensures.rest c.split-lines.ensures.done c.split-lines.ensures.closure (λ x r q k. search (rules, tests)))
    c.in-Some.ensures.steps).0

pub returns-in_err-names : goal.returns-in_err-names
returns-in_err-names c =
    let p = err_from_is_err_and c.from_residual.result c.from_residual.ensures.1 in
    let none = no_names c.args.text.now c.in-Some.first.now _ c.in_err-names.field-0.0 (split (goal.at.returns-in_err-names c).In-Some) c.in_err-names.ensures in
    record {
      answer = p.1 ∙ ap Err (p.2 ∙ none.1) ∙ ap answered (sym none.0);
      list = ap (λ (r : Reading). over r.meant c.args.entries.now) (sym none.0);
      few = IfOk-from_err _ _ c.from_residual.ensures.0;
      accepted = IfOk-from_err _ _ c.from_residual.ensures.0;
    }

pub loop-line-init : goal.loop-line-init
loop-line-init c = record {
  left =
      YieldsList-at c.into_iter-line-iterator.ensures.into_iter_gives
      (took_at c.split-lines.result c.next.new.self c.in-Some.first (pieces 10 c.args.text.now) 0
      (YieldsList-from_slice_split _ _ c.args.text.now c.split-lines.ensures.rest c.split-lines.ensures.done c.split-lines.ensures.closure (λ x r q k. search (rules, tests)))
      c.in-Some.ensures.steps).1;
  read = start c.in_ok-names.names c.args.entries.now c.args.text.now c.in-Some.first.now _ (split (goal.at.loop-line-init c).In-Some) c.in_ok-names.ensures;
}

-- the invariant, once the first of the lines that are left was taken
ahead : (c : goal.In-Some-line) → Sofar c.in_ok-names.names (read_lines (pieces 10 c.args.text.now)) (length (pieces 10 c.args.text.now)) c.args.entries.now c.loop-line.entries c.loop-line.count (c.in-Some-line.line.now ∷ drop (c.loop-line.count + 1 + 1) (pieces 10 c.args.text.now))
ahead c =
    subst (Sofar _ _ _ _ _ _)
    (took_at c.loop-line.line-iterator c.next-in-loop-line.new.self c.in-Some-line.line (pieces 10 c.args.text.now) (c.loop-line.count + 1) c.loop-line.invariant.left c.in-Some-line.ensures.steps).0
    c.loop-line.invariant.read

-- the line's entry, as the loop goes on
read : (c : goal.In_ok-entries) → added c.in_ok-names.names (c.loop-line.count + 2) (take c.loop-line.count c.loop-line.entries) c.in-Some-line.line.now ≡ Ok c.in_ok-entries.field-0
read c = sym (simp sub-zero at c.in_ok-entries.ensures)

pub returns-in_err-entries : goal.returns-in_err-entries
returns-in_err-entries c =
    let p = err_from_is_err_and c.from_residual-in_err-entries.result c.from_residual-in_err-entries.ensures.1 in
    let ends = stop (ahead (goal.at.returns-in_err-entries c).In-Some-line) c.in_err-entries.field-0.0 (sym (simp sub-zero at c.in_err-entries.ensures)) in
    record { answer = p.1 ∙ ap Err p.2 ∙ ends.0; list = ends.1; few = IfOk-from_err _ _ c.from_residual-in_err-entries.ensures.0; accepted = IfOk-from_err _ _ c.from_residual-in_err-entries.ensures.0 }

pub bounds-entries-count : goal.bounds-entries-count
bounds-entries-count c =
    let small = room (ahead (goal.at.bounds-entries-count c).In-Some-line) _ (read c) in
    let long = c.loop-line.invariant.read.long in
    omega (arith, c.requires)

pub loop-line-preserved : goal.loop-line-preserved
loop-line-preserved c = record {
  left = (took_at c.loop-line.line-iterator c.next-in-loop-line.new.self c.in-Some-line.line (pieces 10 c.args.text.now) (c.loop-line.count + 1) c.loop-line.invariant.left c.in-Some-line.ensures.steps).1;
  read = again (ahead (goal.at.loop-line-preserved c).In-Some-line) _ (read (goal.at.loop-line-preserved c).In_ok-entries) c.requires;
}

-- no line is left
done : (c : goal.In-None) → Sofar c.in_ok-names.names (read_lines (pieces 10 c.args.text.now)) (length (pieces 10 c.args.text.now)) c.args.entries.now c.loop-line.entries c.loop-line.count []
done c =
    subst (Sofar _ _ _ _ _ _) (none_left c.loop-line.line-iterator c.next-in-loop-line.new.self (drop (c.loop-line.count + 1) (pieces 10 c.args.text.now)) c.loop-line.invariant.left c.in-None.ensures.steps)
    c.loop-line.invariant.read

pub returns-then-not-has_panel : goal.returns-then-not-has_panel
returns-then-not-has_panel c =
    let end = done (goal.at.returns-then-not-has_panel c).In-None in
    record { answer = full end false (simp sub-zero at c.if-not-has_panel.ensures); list = written end; few = tt; accepted = tt }

pub returns : goal.returns
returns c =
    let end = done (goal.at.returns c).In-None in
    let one : true ≡ has_panel (take c.loop-line.count c.loop-line.entries) = simp sub-zero at c.if-not-has_panel.ensures in
    record { answer = full end true one; list = written end; few = at_most end; accepted = whole_sheet end (sym one) }
