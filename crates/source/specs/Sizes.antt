-- The size check: whether a plan may be so large, and whether memory is long enough for it.
use Rattle.std.specs.Prelude.{◌≡◌, ℕ, Bool, cond, ◌&&◌, Ok, Err, Result, IfOk, nat_le}
use Rattle.std.specs.Result.{result_map_both}
use Rattle.floor.specs.Plans.{Plan, closed}
use Rattle.source.specs.declared.extents.Size.{Size}
use Rattle.source.specs.declared.sizes.SizeRefusal.{SizeRefusal}
use Rattle.source.specs.declared.sizes.SizeRefusal.TheVariants.{Extent, Memory}

-- each refusal's number
abbrev pub size_number : SizeRefusal → ℕ
size_number Extent = 10
size_number Memory = 11

-- 1 to 128 rows and 1 to 128 columns
abbrev pub within_limits : ℕ → ℕ → Bool
within_limits rows cols = (nat_le 1 rows && nat_le rows 128) && (nat_le 1 cols && nat_le cols 128)

-- The first question that fails: is the extent within the limits, and is what there is of memory at least what is needed?
abbrev pub size_answer : ℕ → ℕ → ℕ → ℕ → Result (Unit {0}) SizeRefusal
size_answer rows cols have need = cond (within_limits rows cols) (cond (nat_le need have) (Ok tt) (Err Memory)) (Err Extent)

-- What a check of so many rows and columns promises, where there is so much memory and so much is needed: the answer above, and where it passes, the size of just these rows and columns.
pub record Checked (rows cols have need : ℕ) (result : Result Size SizeRefusal) : Type 0 where
  pub answer : result_map_both (λ _. tt) (λ e. e) result ≡ size_answer rows cols have need
  pub size : IfOk result (λ s. (s.rows ≡ rows) × (s.cols ≡ cols))

-- the plan that making gives: a new one where the check passes, and else that of no rows and no columns
abbrev pub plan_made : ℕ → ℕ → ℕ → ℕ → Plan
plan_made rows cols have need = elim (size_answer rows cols have need) [ Ok done ↦ closed rows cols | Err e ↦ closed 0 0 ]
