use Rattle.std.proofs.Common.{◌≡◌, get_or, set, sym, refl, ap, ◌∙◌, arith, length-set}
use Rattle.search.specs.declared.entry.Entry.{Entry}
use Rattle.search.specs.Mark.{blank, marks, is_waiting}
use Rattle.search.specs.Queue.{waiter_of}
use Rattle.search.proofs.Marks as written
use Rattle.search.proofs.Moves as moves
use Rattle.search.proofs.frontier.ByCostOrderWaiter.placed.Goals as goal

pub returns : goal.returns
unfolding marks
returns g c =
    let es = c.args.self.now.entries.now in
    let k = c.args.item.now.place in
    let old = get_or es k blank in
    let e : Entry = record { straight = old.straight; diagonal = old.diagonal; from = old.from; slot = c.args.slot; state = old.state; direct = old.direct } in
    let known = c.requires.0 in
    let low = known.inside in
    let long = length-set es k e in
    let same : marks es ≡ marks (set es k e) = sym (written.marks_same es k e low refl) in
    record {
      here = record { known = record { inside = omega arith; waits = sym (ap (λ s. is_waiting (s k)) same) ∙ known.waits; is = known.is ∙ ap (λ s. waiter_of s k) same }; stands = written.slot_here es k e low };
      others = λ x j. moves.still es k e low x j;
      same = record { order = refl; marks = sym same; size = long; lender = refl };
    }
