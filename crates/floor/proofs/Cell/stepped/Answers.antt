-- A step shifts the row and the column, each by itself.
use Rattle.std.proofs.Common.{pos, ◌+ℤ◌, sym, ap, ◌∙◌}
use Rattle.floor.specs.Plane.{step}
use Rattle.floor.proofs.Plane.{at}
use Rattle.floor.proofs.Cell.stepped.Goals as goal

pub returns-in_err-row : goal.returns-in_err-row
unfolding step
returns-in_err-row c =
    rw c.from_residual.ensures
    (λ d r k e. c.in_err-row.ensures d.row r (ap (λ x. x.row) e ∙ ap (λ z. pos c.args.self.row +ℤ z) (sym c.down.ensures)))

pub returns-in_err-col : goal.returns-in_err-col
unfolding step
returns-in_err-col c =
    rw c.from_residual-in_err-col.ensures
    (λ d r k e. c.in_err-col.ensures d.col k (ap (λ x. x.col) e ∙ ap (λ z. pos c.args.self.col +ℤ z) (sym c.across.ensures)))

pub returns : goal.returns
unfolding step
returns c =
    at
    (c.in_ok-row.ensures ∙ ap (λ z. pos c.args.self.row +ℤ z) c.down.ensures)
    (c.in_ok-col.ensures ∙ ap (λ z. pos c.args.self.col +ℤ z) c.across.ensures)
