-- Cells as points: an open point is a cell inside its plan, a cell is known by its point, and row by row no two cells inside have one number.
use Rattle.std.proofs.Common.{◌≡◌, ℕ, ◌+◌, ◌*◌, ◌/◌, ◌%◌, ◌<◌, true, ℤ, pos, negsuc, nat_abs, sym, refl, ap, ◌∙◌}
use mathlib.Core.Bool.{false≢true}
use Rattle.std.proofs.lemmas.Bool.{and_parts, ltb-true}
use Rattle.std.proofs.lemmas.Nat.{div-mul-add, mod-mul-add}
use Rattle.floor.specs.declared.Cell.{Cell}
use Rattle.floor.specs.Plane.{Point, point}
use Rattle.floor.specs.Plans.{Plan, open_at, opens}

pub record Found (p : Plan) (x : Point) : Type 0 where
  pub cell : Cell
  pub is_cell : point cell ≡ x
  pub in_rows : cell.row < p.rows
  pub in_cols : cell.col < p.cols

pub found : (p : Plan) (x : Point) → opens p x ≡ true → Found p x
found p x = at x.row x.col
  where
    at : (r c : ℤ) → open_at p r c ≡ true → Found p (record { row = r; col = c })
    at (pos r) (pos c) e =
        let within = and_parts _ _ (and_parts _ _ e).0 in
        record { cell = record { row = r; col = c }; is_cell = refl; in_rows = ltb-true _ _ within.0; in_cols = ltb-true _ _ within.1 }
    at (pos r) (negsuc c) e = absurd (false≢true e)
    at (negsuc r) (pos c) e = absurd (false≢true e)
    at (negsuc r) (negsuc c) e = absurd (false≢true e)

-- two cells at one point are one
pub cell_known : {c d : Cell} → point c ≡ point d → c ≡ d
cell_known e = λ i. record { row = nat_abs (e i).row; col = nat_abs (e i).col }

-- where one number stands for two pairs of a row and a column, the pairs are one
pub same_pair : (cols r c r' c' : ℕ) → c < cols → c' < cols → r * cols + c ≡ r' * cols + c' → (r ≡ r') × (c ≡ c')
same_pair cols r c r' c' p q e =
    (sym (div-mul-add r cols c p) ∙ ap (λ k. k / cols) e ∙ div-mul-add r' cols c' q, sym (mod-mul-add r cols c p) ∙ ap (λ k. k % cols) e ∙ mod-mul-add r' cols c' q)
