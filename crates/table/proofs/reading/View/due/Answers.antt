use Rattle.std.proofs.Common.{sym, ap, ◌∙◌}
use Rattle.table.specs.Equations.{one_on}
use Rattle.table.proofs.Ends.{due_blocked, due_end, due_further}
use Rattle.table.proofs.reading.View.due.Goals as goal

pub returns-in-None : goal.returns-in-None
returns-in-None c = sym (due_blocked _ _ _ _ c.in-None.ensures)

pub returns-in-Some : goal.returns-in-Some
returns-in-Some c = c.label.ensures.made ∙ sym (due_end _ _ _ _ c.in-Some.ensures.0 (sym c.if-ends.ensures))

pub returns-in-Some-2 : goal.returns-in-Some-2
returns-in-Some-2 c = ap one_on c.label-in-Some-2.ensures ∙ sym (due_further _ _ _ _ c.in-Some.ensures.0 (sym c.if-ends.ensures) _ c.in-Some.ensures.1)
