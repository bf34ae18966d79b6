-- What pruning promises: of all legal routes it is enough to follow chains of successors.
use Rattle.std.specs.Prelude.{◌≡◌, ℕ, ◌<◌, ◌≤◌, true, Some}
use Rattle.floor.specs.declared.Cell.{Cell}
use Rattle.floor.specs.declared.Counts.{Counts}
use Rattle.floor.specs.declared.Heading.{Heading}
use Rattle.floor.specs.Tally.{steps, Dominates}
use Rattle.floor.specs.Plane.{Point, point}
use Rattle.floor.specs.Plans.{Plan, Sized, inside, opens, is_open, legal}
use Rattle.floor.specs.Routes.{Laid, Route}
use Rattle.floor.specs.Jumps.{walk, jump_from}
use Rattle.floor.specs.Places.{Position, place, spot, many, successor, Chain}

-- a chain of successors from s to a position on t with these counts; where s is t, the start alone is one
pub record Linked (p : Plan) (s t : Point) (n : Counts) : Type 0 where
  pub last : Position
  pub arrives : spot last ≡ t
  pub chain : Chain p s t last n

-- the same from one cell to another
abbrev pub Chained : Plan → Cell → Cell → Counts → Type 0
Chained p s t n = Linked p (point s) (point t) n

-- Every legal route is dominated by a chain: under no lawful rate does a route cost less than every chain.
abbrev pub NoCheaperRunIsLost : Type 0
NoCheaperRunIsLost = (p : Plan) (s t : Cell) (n : Counts) → Route p s t n → (m : Counts) × Chained p s t m × Dominates m n

-- Every chain from an open cell is a legal route with the same counts, on the way to the target too.
abbrev pub EveryChainIsARoute : Type 0
EveryChainIsARoute =
    (p : Plan) (s t : Cell) (at : Position) (n : Counts) → is_open p s ≡ true → Chain p (point s) (point t) at n → Laid legal (opens p) (point s) (spot at) n

-- A legal route exists exactly if a chain does.
pub record SameReach (p : Plan) (s t : Cell) : Type 0 where
  pub chain_for : (n : Counts) × Route p s t n → (m : Counts) × Chained p s t m
  pub route_for : (m : Counts) × Chained p s t m → (n : Counts) × Route p s t n

-- What a leap to a successor is, k steps of the heading h from x: legal steps to an open cell, one at least, and as far as the jump at most.
pub record LegalLeap (p : Plan) (x : Point) (h : Heading) (k : ℕ) : Type 0 where
  pub some : 1 ≤ k
  pub few : k ≤ (jump_from p x h).0
  pub short : Sized p → k < 128
  pub route : Laid legal (opens p) x (walk h k x) (many h k)

-- Every successor lies at the end of a legal leap.
abbrev pub SuccessorsAreLeaps : Type 0
SuccessorsAreLeaps = (p : Plan) (t x : Point) (h : Heading) (k : ℕ) → successor p t x h ≡ Some k → LegalLeap p x h k

-- Where a chain stands after a leap: on an open cell inside the plan.
pub record Stands (p : Plan) (x : Point) (n : Counts) : Type 0 where
  pub cell : Cell
  pub there : point cell ≡ x
  pub within : inside p cell ≡ true
  pub is_free : is_open p cell ≡ true
  pub some : 1 ≤ steps n

-- Every chain that has left the start stands so.
abbrev pub ChainsStandOnOpenCells : Type 0
ChainsStandOnOpenCells = (p : Plan) (s t x : Point) (h : Heading) (n : Counts) → Chain p s t (place x h) n → Stands p x n
