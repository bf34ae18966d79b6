-- Plans as sources hold them: of few rows and columns, with cells open at most where these are.
use Rattle.std.specs.Prelude.{ℕ, Bool, ◌&&◌, nat_lt}
use Rattle.std.proofs.lemmas.Bool.{and_left}
use Rattle.floor.specs.Plans.{Sized}
use Rattle.source.specs.Few.{Few}

-- A plan of few rows and columns that opens nothing past them is within the limits on a plan's size.
pub sized_plan : {rows cols : ℕ} (says : ℕ → ℕ → Bool) → Few rows cols → Sized (record { rows = rows; cols = cols; free = λ r c. (nat_lt r rows && nat_lt c cols) && says r c })
sized_plan says f = record { few_rows = f.0; few_cols = f.1; no_rows = f.2; no_cols = f.3; bounded = λ r c out. and_left _ _ out }
