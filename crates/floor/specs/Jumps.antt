-- Jumps: how far one goes on a heading before there is a reason to turn.
use Rattle.std.specs.Prelude.{◌≡◌, ℕ, zero, suc, ◌+◌, ◌<◌, Bool, true, false, cond, not, ◌&&◌, ◌||◌, Some, None}
use Rattle.floor.specs.declared.Cell.{Cell}
use Rattle.floor.specs.declared.Heading.{Heading}
use Rattle.floor.specs.declared.Side.{Side}
use Rattle.floor.specs.declared.Side.TheVariants.{Left, Right}
use Rattle.floor.specs.Plane.{Point, point, heading, turn, diagonal, step}
use Rattle.floor.specs.Plans.{Plan, opens, legal}

-- the point k steps on
abbrev pub walk : Heading → ℕ → Point → Point
walk h zero x = x
walk h (suc k) x = walk h k (step h x)

module _ (free : Point → Bool) where
  -- The straight step h from x makes its end a stop on a side: there the cell beside x is closed and the cell beside the end is open.
  unfoldable pub stop : Point → Heading → Side → Bool
  stop x h s = not (free (step (turn s (turn s h)) x)) && free (step (turn s (turn s h)) (step h x))

  -- on one side or the other
  abbrev pub stops : Point → Heading → Bool
  stops x h = stop x h Left || stop x h Right

  -- k legal steps; no mark before the last of them; live exactly if the last ends at a mark, and dead only if the next is not legal.
  pub record Run (mark : Point → Type 0) (h : Heading) (x : Point) (k : ℕ) (live : Bool) : Type 0 where
    pub legals : (i : ℕ) → i < k → legal free (walk h i x) h ≡ true
    pub before : (i : ℕ) → i + 1 < k → mark (walk h i x) → ⊥
    pub at_mark : live ≡ true → (i : ℕ) × (k ≡ i + 1) × mark (walk h i x)
    pub no_mark : live ≡ false → (i : ℕ) → k ≡ i + 1 → mark (walk h i x) → ⊥
    pub blocked : live ≡ false → legal free (walk h k x) h ≡ false

  -- a straight jump stops where a step ends at a stop
  abbrev pub StraightJump : Heading → Point → ℕ → Bool → Type 0
  StraightJump h = Run (λ x. stops x h ≡ true) h

  -- a diagonal jump stops where a straight jump of a heading next to it is live
  abbrev pub DiagonalJump : Heading → Point → ℕ → Bool → Type 0
  DiagonalJump h = Run (λ x. (s : Side) × (k : ℕ) × StraightJump (turn s h) (step h x) k true) h

  -- a jump, straight or diagonal as its heading is
  pub record Jump (h : Heading) (x : Point) (k : ℕ) (live : Bool) : Type 0 where
    pub straight : diagonal h ≡ false → StraightJump h x k live
    pub slanted : diagonal h ≡ true → DiagonalJump h x k live

  -- Legal steps from x, at most n, up to the first that ends at a mark: how many, and whether it is live.
  unfoldable pub scan : (Point → Bool) → Heading → ℕ → Point → ℕ × Bool
  scan mark h zero x = (0, false)
  scan mark h (suc n) x = cond (legal free x h) (cond (mark x) (1, true) (suc (scan mark h n (step h x)).0, (scan mark h n (step h x)).1)) (0, false)

  -- n is at least as long as any run of legal steps
  module _ (n : ℕ) where
    -- the steps of the straight jump, and whether it is live
    abbrev pub straight_jump : Heading → Point → ℕ × Bool
    straight_jump h x = scan (λ y. stops y h) h n x

    -- the same of the diagonal jump, which stops where a straight jump of a heading next to it is live
    abbrev pub diagonal_jump : Heading → Point → ℕ × Bool
    diagonal_jump h x = scan (λ y. (straight_jump (turn Left h) (step h y)).1 || (straight_jump (turn Right h) (step h y)).1) h n x

    -- the one or the other, as the heading is
    abbrev pub jump : Heading → Point → ℕ × Bool
    jump h x = cond (diagonal h) (diagonal_jump h x) (straight_jump h x)

-- the jump from a point of a plan: no run of legal steps is as long as rows and columns together
abbrev pub jump_from : Plan → Point → Heading → ℕ × Bool
jump_from p x h = jump (opens p) (p.rows + p.cols) h x

-- the jump of a heading's number; above 7 there is none
abbrev pub jump_of : Plan → Cell → ℕ → ℕ × Bool
jump_of p x n = elim (heading n) [ Some h ↦ jump_from p (point x) h | None ↦ (0, false) ]
