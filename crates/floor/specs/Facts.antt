-- Facts about routes. They hold of every fair laying, so that another laying has them too.
use Rattle.std.specs.Prelude.{◌≡◌, ℕ, ◌+◌, ◌*◌, ◌<◌, ◌≤◌, Bool, true, cond, ◌&&◌, List, ◌∷◌, length, ◌==◌}
use Rattle.floor.specs.declared.Cell.{Cell}
use Rattle.floor.specs.declared.Counts.{Counts}
use Rattle.floor.specs.declared.Heading.{Heading}
use Rattle.floor.specs.Tally.{plus, steps}
use Rattle.floor.specs.Plane.{Point}
use Rattle.floor.specs.Plans.{Plan, Sized, inside, opens, is_open, marked}
use Rattle.floor.specs.Routes.{cells, tally, corners, Distinct, Laying, Laid, Grows}
use Rattle.floor.specs.Runs.{Stretch, laid_out, ends_of, sum_of, Turning}

-- a route with the same ends that visits no cell twice and has no more steps of either kind
pub record Simple (may : Laying) (p : Plan) (s t : Point) (n : Counts) : Type 0 where
  pub counts : Counts
  pub route : Laid may (opens p) s t counts
  pub distinct : Distinct (cells s route.headings)
  pub straights : counts.straight ≤ n.straight
  pub diagonals : counts.diagonal ≤ n.diagonal
  pub few : steps counts < p.rows * p.cols

-- What is made of a route stays a route: two joined, one turned round, one on a plan with more open cells, and one cut short.
pub record RoutesKeep (may : Laying) : Type 0 where
  -- a route to m and a route on from m are a route, with the counts of both
  pub join : (p : Plan) (s m t : Point) (a b : Counts) → Laid may (opens p) s m a → Laid may (opens p) m t b → Laid may (opens p) s t (plus a b)
  -- a route can be taken the other way, with the same counts
  pub turn_round : (p : Plan) (s t : Point) (n : Counts) → Laid may (opens p) s t n → Laid may (opens p) t s n
  -- a route stays one when more cells are open
  pub stay : (p q : Plan) → Grows (opens p) (opens q) → (s t : Point) (n : Counts) → Laid may (opens p) s t n → Laid may (opens q) s t n
  -- each route has one below it that visits no cell twice, and so has fewer steps than the plan has cells
  pub shorten : (p : Plan) (s t : Point) (n : Counts) → Laid may (opens p) s t n → Simple may p s t n

-- no plan is so large that a route on distinct cells has more steps than this
abbrev pub SixteenThousand : Type 0
SixteenThousand = (p : Plan) → Sized p → (n : ℕ) → n < p.rows * p.cols → n ≤ 16383

-- A route is its runs: its corners are its first cell and the last cell of each run, its counts are those of the runs.
pub record ByRuns (x : Point) (hs : List Heading) : Type 0 where
  pub runs : List Stretch
  pub turning : Turning runs
  pub whole : laid_out runs ≡ hs
  pub bends : corners x hs ≡ x ∷ ends_of x runs
  pub counted : tally hs ≡ sum_of runs
  pub few : length (corners x hs) ≤ steps (tally hs) + 1

-- Runs that turn are a route with just these corners and counts.
pub record FromRuns (x : Point) (runs : List Stretch) : Type 0 where
  pub bends : corners x (laid_out runs) ≡ x ∷ ends_of x runs
  pub counted : tally (laid_out runs) ≡ sum_of runs

-- Setting a cell of a plan sets that cell and no other.
abbrev pub MarksOneCell : Type 0
MarksOneCell =
    (p : Plan) (c d : Cell) (b : Bool) → inside p c ≡ true →
    is_open (marked p c b) d ≡ cond (d.row == c.row && d.col == c.col) b (is_open p d)
