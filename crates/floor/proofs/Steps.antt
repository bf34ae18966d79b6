-- Where a step from a cell leads no cell lies that a plan could hold.
use Rattle.std.proofs.Common.{◌≡◌, false, None, inl, inr, arith}
use Rattle.std.proofs.lemmas.Bool.{cases_Bool}
use Rattle.floor.specs.declared.Cell.{Cell}
use Rattle.floor.specs.declared.Heading.{Heading}
use Rattle.floor.specs.Plane.{point, step}
use Rattle.floor.specs.Plans.{Plan, Sized, opens}
use Rattle.floor.specs.Steps.{Stepped}
use Rattle.floor.proofs.Cells.{found}

-- a step that leads to no cell leads to none that is open
pub no_cell_open : (p : Plan) → Sized p → (c : Cell) (h : Heading) → Stepped c h None → opens p (step h (point c)) ≡ false
no_cell_open p s c h n = elim (cases_Bool (opens p (step h (point c)))) [
  | inl o ↦
      let d = found p (step h (point c)) o in
      absurd (n d.cell (omega (arith, d.in_rows, s.few_rows)) (omega (arith, d.in_cols, s.few_cols)) d.is_cell)
  | inr o ↦ o
]
