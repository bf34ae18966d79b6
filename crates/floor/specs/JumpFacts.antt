-- What holds of the jumps of every plan, of any size.
use Rattle.std.specs.Prelude.{◌≡◌, ℕ, ◌<◌, Bool, true, false}
use Rattle.floor.specs.declared.Heading.{Heading}
use Rattle.floor.specs.Plane.{Point}
use Rattle.floor.specs.Plans.{Plan, Sized, opens, legal}
use Rattle.floor.specs.Jumps.{walk, Jump, jump_from}

-- what is computed is a jump, and there is no other
pub record OneAnswer (p : Plan) (x : Point) (h : Heading) : Type 0 where
  pub is_jump : Jump (opens p) h x (jump_from p x h).0 (jump_from p x h).1
  pub only : (k : ℕ) (live : Bool) → Jump (opens p) h x k live → (k ≡ (jump_from p x h).0) × (live ≡ (jump_from p x h).1)

-- on every heading from every point there is a jump, and only one
abbrev pub EveryJumpHasOneAnswer : Type 0
EveryJumpHasOneAnswer = (p : Plan) (x : Point) (h : Heading) → OneAnswer p x h

-- closed cells, and so all cells outside, have jumps of no steps, and dead
abbrev pub ClosedCellsStay : Type 0
ClosedCellsStay = (p : Plan) (x : Point) (h : Heading) → opens p x ≡ false → jump_from p x h ≡ (0, false)

-- every step of a jump is legal
abbrev pub JumpsTakeLegalSteps : Type 0
JumpsTakeLegalSteps = (p : Plan) (x : Point) (h : Heading) (i : ℕ) → i < (jump_from p x h).0 → legal (opens p) (walk h i x) h ≡ true

-- within the limits on a plan's size, 7 bits hold the steps of a jump
abbrev pub JumpsAreShort : Type 0
JumpsAreShort = (p : Plan) → Sized p → (x : Point) (h : Heading) → (jump_from p x h).0 < 128
