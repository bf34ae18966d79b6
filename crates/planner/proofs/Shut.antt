-- Closing cell after cell, and row after row, leaves no cell open.
use Rattle.std.proofs.Common.{◌≡◌, ℕ, ◌+◌, Bool, false, arith}
use Rattle.std.proofs.lemmas.Bool.Decides.{nat_tests}
use Rattle.floor.specs.Plans.{Plan, Sized, closed, marked}
use Rattle.planner.specs.Shutting.{shut_row, shut_rows}

-- plans of one size with the same cells open are one plan
pub alike : (h w : ℕ) (f g : ℕ → ℕ → Bool) → ((r c : ℕ) → f r c ≡ g r c) → ◌≡◌ {A = Plan} (record { rows = h; cols = w; free = f }) (record { rows = h; cols = w; free = g })
alike h w f g e = λ i. record { rows = h; cols = w; free = λ r c. e r c i }

pub row_none : (p : Plan) (row : ℕ) → p ≡ shut_row p row 0
row_none p row = alike p.rows p.cols p.free (shut_row p row 0).free (λ r c. grind (arith, nat_tests))

pub row_more : (p : Plan) (row n : ℕ) → marked (shut_row p row n) (record { row = row; col = n }) false ≡ shut_row p row (n + 1)
row_more p row n = alike p.rows p.cols _ _ (λ r c. grind (arith, nat_tests))

pub rows_none : (p : Plan) → p ≡ shut_rows p 0
rows_none p = alike p.rows p.cols p.free (shut_rows p 0).free (λ r c. grind (arith, nat_tests))

pub rows_more : (p : Plan) → Sized p → (n : ℕ) → shut_row (shut_rows p n) n p.cols ≡ shut_rows p (n + 1)
rows_more p z n = alike p.rows p.cols _ _ (λ r c. let b = z.bounded r c in grind (arith, nat_tests))

pub rows_all : (p : Plan) → Sized p → shut_rows p p.rows ≡ closed p.rows p.cols
rows_all p z = alike p.rows p.cols _ _ (λ r c. let b = z.bounded r c in grind (arith, nat_tests))
