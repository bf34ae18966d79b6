-- Plans: a size, and which cells inside it are open.
use Rattle.std.specs.Prelude.{◌≡◌, ℕ, ◌≤◌, Bool, false, cond, not, ◌&&◌, ◌||◌, ℤ, pos, negsuc, ◌==◌, nat_lt}
use Rattle.floor.specs.declared.Cell.{Cell}
use Rattle.floor.specs.declared.Heading.{Heading}
use Rattle.floor.specs.declared.Side.TheVariants.{Left, Right}
use Rattle.floor.specs.Plane.{Point, point, turn, diagonal, step}

-- free tells of a row and a column whether that cell is open, if it lies inside
pub record Plan : Type 0 where
  pub rows : ℕ
  pub cols : ℕ
  pub free : ℕ → ℕ → Bool

-- 1 to 128 rows and 1 to 128 columns, or none of either; and nothing outside is marked open
pub record Sized (p : Plan) : Type 0 where
  pub few_rows : p.rows ≤ 128
  pub few_cols : p.cols ≤ 128
  pub no_rows : p.rows ≡ 0 → p.cols ≡ 0
  pub no_cols : p.cols ≡ 0 → p.rows ≡ 0
  pub bounded : (r c : ℕ) → (nat_lt r p.rows && nat_lt c p.cols) ≡ false → p.free r c ≡ false

-- whether a cell lies inside
abbrev pub inside : Plan → Cell → Bool
inside p c = nat_lt c.row p.rows && nat_lt c.col p.cols

-- everything outside the plan counts as closed
abbrev pub open_at : Plan → ℤ → ℤ → Bool
open_at p (pos r) (pos c) = (nat_lt r p.rows && nat_lt c p.cols) && p.free r c
open_at p (pos r) (negsuc c) = false
open_at p (negsuc r) (pos c) = false
open_at p (negsuc r) (negsuc c) = false

-- whether a point is an open cell
abbrev pub opens : Plan → Point → Bool
opens p x = open_at p x.row x.col

-- whether a cell is open
abbrev pub is_open : Plan → Cell → Bool
is_open p c = opens p (point c)

-- a new plan
abbrev pub closed : ℕ → ℕ → Plan
closed rows cols = record { rows = rows; cols = cols; free = λ r c. false }

-- the plan with one cell set open or closed
abbrev pub marked : Plan → Cell → Bool → Plan
marked p x b = record { rows = p.rows; cols = p.cols; free = λ r c. cond (r == x.row && c == x.col) b (p.free r c) }

-- A straight step is legal between two open cells; a diagonal one only if the two cells beside it are open too.
unfoldable pub legal : (Point → Bool) → Point → Heading → Bool
legal free x h = (free x && free (step h x)) && (not (diagonal h) || (free (step (turn Left h) x) && free (step (turn Right h) x)))
