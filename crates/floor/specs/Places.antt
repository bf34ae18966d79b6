-- Places, where they go on, their successors on the way to a target, and chains of these.
use Rattle.std.specs.Prelude.{◌≡◌, ℕ, zero, suc, ◌+◌, ◌*◌, Bool, true, false, cond, ◌&&◌, ◌||◌, ℤ, pos, negsuc, Some, None, Option, ◌==◌}
use Rattle.floor.specs.declared.Cell.{Cell}
use Rattle.floor.specs.declared.Counts.{Counts}
use Rattle.floor.specs.declared.Heading.{Heading}
use Rattle.floor.specs.declared.Side.{Side}
use Rattle.floor.specs.declared.Side.TheVariants.{Left, Right}
use Rattle.floor.specs.Tally.{counts, none, plus}
use Rattle.floor.specs.Plane.{Point, number, same, turn, opposite, diagonal, step}
use Rattle.floor.specs.Plans.{Plan, opens}
use Rattle.floor.specs.Jumps.{walk, stop, jump_from}

-- Where a chain stands: at its start, which is no place, or at a place: a cell with the heading of arrival.
pub data Position : Type 0 where
  start : Point → Position
  place : Point → Heading → Position

-- the point at which a position lies
abbrev pub spot : Position → Point
spot (start x) = x
spot (place x h) = x

-- a place's number, for a cell of a plan with so many columns
abbrev pub place_number : ℕ → Cell → Heading → ℕ
place_number cols c h = 8 * (c.row * cols + c.col) + number h

-- whether two whole numbers are one
abbrev pub same_int : ℤ → ℤ → Bool
same_int (pos m) (pos n) = m == n
same_int (negsuc m) (negsuc n) = m == n
same_int (pos m) (negsuc n) = false
same_int (negsuc m) (pos n) = false

-- What a jump of the heading h looks for on its way to t: a straight one t itself, a diagonal one t's row or column.
abbrev pub sights : Point → Heading → Point → Bool
sights t h x = cond (diagonal h) (same_int x.row t.row || same_int x.col t.col) (same_int x.row t.row && same_int x.col t.col)

-- the least number below n that passes a test
abbrev pub first : (ℕ → Bool) → ℕ → Option ℕ
first test zero = None
first test (suc n) = elim (first test n) [ Some k ↦ Some k | None ↦ cond (test n) (Some n) None ]

-- so many steps of a heading
abbrev pub many : Heading → ℕ → Counts
many h k = cond (diagonal h) (counts 0 k) (counts k 0)

module _ (p : Plan) where
  -- At x, reached with the straight heading h, a side is opened up by a stop: the place goes on to that side and between.
  abbrev pub opened : Point → Heading → Heading → Side → Bool
  opened x h g s = stop (opens p) (step (opposite h) x) h s && (same g (turn s h) || same g (turn s (turn s h)))

  -- The start goes on in all headings. A diagonal place goes on in its heading and the two beside it; a straight one in its heading, and towards each side on which its cell is a stop.
  abbrev pub goes_on : Position → Heading → Bool
  goes_on (start x) g = true
  goes_on (place x h) g = same g h || cond (diagonal h) (same g (turn Left h) || same g (turn Right h)) (opened x h g Left || opened x h g Right)

  -- How many steps on the successor lies, if there is one: the first cell of the jump that sights the target, else the end of a live jump.
  abbrev pub successor : Point → Point → Heading → Option ℕ
  successor t x h = elim (first (λ k. sights t h (walk h (suc k) x)) (jump_from p x h).0) [
    | Some k ↦ Some (suc k)
    | None ↦ cond (jump_from p x h).1 (Some (jump_from p x h).0) None
  ]

  -- Chains of successors on the way from s to t: where each stands, and its counts.
  pub data Chain (s t : Point) : Position → Counts → Type 0 where
    begin : Chain s t (start s) none
    leap : {at : Position} {n : Counts} → Chain s t at n → (h : Heading) (k : ℕ) → goes_on at h ≡ true → successor t (spot at) h ≡ Some k → Chain s t (place (walk h k (spot at)) h) (plus n (many h k))
