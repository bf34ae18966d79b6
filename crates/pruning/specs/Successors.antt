-- What the code on successors answers: where a heading leads from a cell on the way to a target.
use Rattle.std.specs.Prelude.{◌≡◌, ℕ, ◌<◌, ◌≤◌, Bool, true, false, cond, Some, None, Option, nat_le, nat_lt}
use Rattle.floor.specs.declared.Cell.{Cell}
use Rattle.floor.specs.declared.Heading.{Heading}
use Rattle.floor.specs.Tally.{steps}
use Rattle.floor.specs.Plane.{Point, point}
use Rattle.floor.specs.Plans.{Plan, inside, is_open}
use Rattle.floor.specs.Jumps.{walk}
use Rattle.floor.specs.Places.{sights, many, successor}
use Rattle.pruning.specs.declared.successors.Leap.{Leap}

-- The successor of c on the heading h towards t: its cell and the counts of the steps to it; or none.
abbrev pub Leads : Plan → Cell → Heading → Cell → Option Leap → Type 0
Leads p c h t (Some l) = (k : ℕ) × (successor p (point t) (point c) h ≡ Some k) × (point l.cell ≡ walk h k (point c)) × (l.counts ≡ many h k)
Leads p c h t None = successor p (point t) (point c) h ≡ None

-- A leap lands on an open cell inside the plan, after 1 to 127 steps.
abbrev pub Lands : Plan → Option Leap → Type 0
Lands p (Some l) = (inside p l.cell ≡ true) × (is_open p l.cell ≡ true) × (1 ≤ steps l.counts) × (steps l.counts < 128)
Lands p None = Unit {0}

-- after how many steps, one at least, the target is first sighted, however far the jump goes
abbrev pub Sighted : Point → Heading → Point → Option ℕ → Type 0
Sighted t h x (Some k) = (1 ≤ k) × (sights t h (walk h k x) ≡ true) × ((i : ℕ) → 1 ≤ i → i < k → sights t h (walk h i x) ≡ false)
Sighted t h x None = (i : ℕ) → 1 ≤ i → sights t h (walk h i x) ≡ false

-- how far the successor lies: at the first sighting, if the jump gets there, else at the end of a live jump
abbrev pub far_of : Option ℕ → ℕ → Bool → Option ℕ
far_of (Some k) steps live = cond (nat_le k steps) (Some k) (cond live (Some steps) None)
far_of None steps live = cond live (Some steps) None

-- the lesser of two numbers, where there are any
abbrev pub nearest : Option ℕ → Option ℕ → Option ℕ
nearest (Some a) (Some b) = cond (nat_lt b a) (Some b) (Some a)
nearest (Some a) None = Some a
nearest None y = y
