-- Cheapest routes: a route than which no other with the same ends is cheaper, the legs of a loop, and each leg by such a route.
use Rattle.std.specs.Prelude.{List, [], ◌∷◌}
use Rattle.floor.specs.declared.Cell.{Cell}
use Rattle.floor.specs.declared.Counts.{Counts}
use Rattle.floor.specs.Tally.{none, plus}
use Rattle.floor.specs.Plane.{point}
use Rattle.floor.specs.Plans.{Plan, opens}
use Rattle.floor.specs.Routes.{Laying, Laid}
use Rattle.rate.specs.declared.Comparison.{Comparison}
use Rattle.rate.specs.Laws.{AtLeast}

-- A route of a plan has counts n, and every route with the same ends costs at least as much, however long it is.
pub record Cheapest (order : Counts → Counts → Comparison) (may : Laying) (p : Plan) (s t : Cell) (n : Counts) : Type 0 where
  pub route : Laid may (opens p) (point s) (point t) n
  pub least : (m : Counts) → Laid may (opens p) (point s) (point t) m → AtLeast order m n

-- from one cell to the next
pub record Leg : Type 0 where
  pub from : Cell
  pub to : Cell

-- the legs from a cell through these and back to the panel
abbrev pub onward : Cell → Cell → List Cell → List Leg
onward panel c [] = record { from = c; to = panel } ∷ []
onward panel c (d ∷ ds) = record { from = c; to = d } ∷ onward panel d ds

-- the legs of a loop, the panel first: each cell to the next, the last back to the panel
abbrev pub legs : List Cell → List Leg
legs [] = []
legs (panel ∷ cells) = onward panel panel cells

-- the counts of all legs together
abbrev pub total : List Counts → Counts
total [] = none
total (n ∷ ns) = plus n (total ns)

-- a route for a loop: one for each leg
abbrev pub Tour : Laying → Plan → List Leg → List Counts → Type 0
Tour may p [] [] = Unit {0}
Tour may p [] (n ∷ ns) = ⊥
Tour may p (l ∷ ls) [] = ⊥
Tour may p (l ∷ ls) (n ∷ ns) = Laid may (opens p) (point l.from) (point l.to) n × Tour may p ls ns

-- each leg by a cheapest route
abbrev pub CheapestLegs : (Counts → Counts → Comparison) → Laying → Plan → List Leg → List Counts → Type 0
CheapestLegs order may p [] [] = Unit {0}
CheapestLegs order may p [] (n ∷ ns) = ⊥
CheapestLegs order may p (l ∷ ls) [] = ⊥
CheapestLegs order may p (l ∷ ls) (n ∷ ns) = Cheapest order may p l.from l.to n × CheapestLegs order may p ls ns
