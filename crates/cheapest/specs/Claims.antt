-- What follows for cheapest routes from the laws of a rate alone.
use Rattle.std.specs.Prelude.{◌≡◌, ℕ, ◌*◌, ◌<◌, ◌≤◌, List, length}
use Rattle.floor.specs.declared.Cell.{Cell}
use Rattle.floor.specs.declared.Counts.{Counts}
use Rattle.floor.specs.Tally.{steps}
use Rattle.floor.specs.Plane.{point}
use Rattle.floor.specs.Plans.{Plan, Sized, opens}
use Rattle.floor.specs.Routes.{Laying, Laid, Grows}
use Rattle.rate.specs.declared.Comparison.{Comparison}
use Rattle.rate.specs.declared.Comparison.TheVariants.{Same}
use Rattle.rate.specs.Laws.{AtLeast, Within}
use Rattle.cheapest.specs.Cheapest.{Cheapest, Leg, total, Tour, CheapestLegs}

-- the most steps of a route that visits no cell twice
abbrev pub longest : ℕ
longest = 16383

-- Rivals may be of any length. Each is cut down to distinct cells first; what is left is within the limit of the laws.
pub record Rivals (order : Counts → Counts → Comparison) (may : Laying) : Type 0 where
  -- a cheapest route has no more than 16,383 steps
  pub short : (p : Plan) → Sized p → (s t : Cell) (n : Counts) → Cheapest order may p s t n → steps n ≤ longest
  -- it visits no cell twice, and so has fewer steps than the plan has cells
  pub simple : (p : Plan) (s t : Cell) (n : Counts) → Sized p → Cheapest order may p s t n → steps n < p.rows * p.cols
  -- to be cheapest it is enough to cost no more than each route of at most 16,383 steps
  pub enough : (p : Plan) → Sized p → (s t : Cell) (n : Counts) → Laid may (opens p) (point s) (point t) n →
      ((m : Counts) → steps m ≤ longest → Laid may (opens p) (point s) (point t) m → AtLeast order m n) → Cheapest order may p s t n
  -- two cheapest routes cost the same
  pub equal : (p : Plan) (s t : Cell) (n m : Counts) → Cheapest order may p s t n → Cheapest order may p s t m → order n m ≡ Same
  -- more open cells never cost more
  pub opening : (p q : Plan) → Grows (opens p) (opens q) → (s t : Cell) (n m : Counts) → Cheapest order may p s t n → Cheapest order may q s t m → AtLeast order n m
  -- up to 64 legs, each by a cheapest route: the total is within the limit, and no route for the whole loop is cheaper
  pub loops : (p : Plan) → Sized p → (ls : List Leg) → length ls ≤ 64 → (ns : List Counts) → CheapestLegs order may p ls ns → Within (total ns)
  pub whole : (p : Plan) → Sized p → (ls : List Leg) → length ls ≤ 64 → (ns : List Counts) → CheapestLegs order may p ls ns →
      (ms : List Counts) → Tour may p ls ms → AtLeast order (total ms) (total ns)
