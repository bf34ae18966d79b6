use Rattle.std.proofs.Common.{◌+◌, get_or, sym, ◌∙◌}
use Rattle.std.proofs.lemmas.Bool.{cond-false}
use Rattle.table.specs.Equations.{label_of_point}
use Rattle.table.proofs.Places.{label_inside}
use Rattle.table.proofs.reading.View.label.Goals as goal

pub returns-in-Some : goal.returns-in-Some
returns-in-Some c =
    let at = c.in-Some.ensures.placed in
    (λ i. get_or c.args.self.now.numbers.now (at.2 i + c.from.ensures i) 0) ∙
    sym (label_inside _ _ _ c.args.cell c.args.towards (record { in_rows = at.0; in_cols = at.1 }))

pub returns-in-None : goal.returns-in-None
unfolding label_of_point
returns-in-None c = sym (cond-false _ _ _ c.in-None.ensures.placed)
