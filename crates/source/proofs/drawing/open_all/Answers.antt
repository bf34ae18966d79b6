use Rattle.std.proofs.Common.{◌≡◌, true, get_or, sym, ap, ◌∙◌, inl, inr}
use Rattle.std.proofs.lemmas.List.{take_all}
use Rattle.std.proofs.lemmas.List.Sums.{fold_more}
use Rattle.std.proofs.lemmas.Bool.{cases_Bool, cond-true, cond-false}
use Rattle.floor.specs.declared.Cell.{Cell}
use Rattle.floor.specs.Plans.{Plan, inside, marked}
use Rattle.source.specs.Drawing.{open_one, opened}
use Rattle.source.proofs.drawing.open_all.Goals as goal

pub loop-cell-preserved : goal.loop-cell-preserved
loop-cell-preserved g c =
    let corner : Cell = record { row = 0; col = 0 } in
    let q : Plan = g.S.JumpSource.meaning c.loop-cell.source in
    let p : Plan = g.S.JumpSource.meaning c.args.source.now in
    let x : Cell = get_or c.args.cells.now c.loop-cell.cell-index corner in
    let one : g.S.JumpSource.meaning c.mark.new.self ≡ open_one q x =
    elim (cases_Bool (inside q x)) [
      | inl e ↦ c.mark.ensures.within e ∙ sym (cond-true (inside q x) (marked q x true) q e)
      | inr e ↦ c.mark.ensures.outside e ∙ sym (cond-false (inside q x) (marked q x true) q e)
    ] in (
      one ∙ ap (λ r. open_one r x) c.loop-cell.invariant.0 ∙ sym (fold_more open_one p c.args.cells.now c.loop-cell.cell-index corner c.loop-cell-test.true),
      g.S.JumpSource.goes _ _ _ c.loop-cell.invariant.1 c.mark.ensures.kept,
    )

pub returns : goal.returns
returns g c =
    record {
      plan = c.loop-cell.invariant.0 ∙ ap (opened (g.S.JumpSource.meaning c.args.source.now)) (take_all _ _ c.loop-cell-test.false);
      kept = c.loop-cell.invariant.1;
    }
