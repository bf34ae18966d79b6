-- The length of a route in millimetres, from its counts and the side of a cell.
use Rattle.std.specs.Prelude.{◌≡◌, ℕ, ◌≤◌, cond, ◌&&◌, Some, None, Ok, Err, Option, Result, nat_le}
use Rattle.floor.specs.declared.Counts.{Counts}
use Rattle.rate.specs.Laws.{limit, Within, AtLeast}
use Rattle.rate.specs.Exact.{Covers, exact}
use Rattle.listing.specs.declared.millimetres.Refusal.{Refusal}
use Rattle.listing.specs.declared.millimetres.Refusal.TheVariants.{Side, Count}

-- the number under which a refusal is printed
abbrev pub refusal_number : Refusal → ℕ
refusal_number Side = 12
refusal_number Count = 13

-- The first question that is answered no, if any: is the side 1 to 2,000? Is each count within the limit?
abbrev pub refusal : ℕ → Counts → Option Refusal
refusal s x = cond (nat_le 1 s && nat_le s 2000) (cond (nat_le x.straight limit && nat_le x.diagonal limit) None (Some Count)) (Some Side)

-- m is the figure for side s and counts x: the least whole number that covers s × (a + b√2)
pub record Figure (s : ℕ) (x : Counts) (m : ℕ) : Type 0 where
  pub covers : Covers m s x
  pub least : (n : ℕ) → Covers n s x → m ≤ n

-- the answer is the refusal, or where there is none, the figure
abbrev pub Measured : ℕ → Counts → Result ℕ Refusal → Type 0
Measured s x (Ok m) = (refusal s x ≡ None) × Figure s x m
Measured s x (Err e) = refusal s x ≡ Some e

-- every side and counts have exactly one figure
abbrev pub OneFigure : Type 0
OneFigure = (s : ℕ) (x : Counts) → (m : ℕ) × Figure s x m × ((n : ℕ) → Figure s x n → n ≡ m)

-- what costs at most as much by the exact rate is at most as long in millimetres
abbrev pub NoDearerNoLonger : Type 0
NoDearerNoLonger = (s : ℕ) (x y : Counts) (m n : ℕ) → Within x → Within y → AtLeast exact y x → Figure s x m → Figure s y n → m ≤ n
