-- A route as runs of one heading after another: where it bends, and what each run adds to its counts.
use Rattle.std.specs.Prelude.{◌≡◌, ℕ, ◌≤◌, false, List, [], ◌∷◌, ◌++◌, replicate}
use Rattle.floor.specs.declared.Counts.{Counts}
use Rattle.floor.specs.declared.Heading.{Heading}
use Rattle.floor.specs.Tally.{none, plus}
use Rattle.floor.specs.Plane.{Point, same}
use Rattle.floor.specs.Jumps.{walk}
use Rattle.floor.specs.Places.{many}

-- so many steps of one heading
pub record Stretch : Type 0 where
  pub heading : Heading
  pub steps : ℕ

-- the headings, step by step
abbrev pub laid_out : List Stretch → List Heading
laid_out [] = []
laid_out (r ∷ rs) = replicate r.steps r.heading ++ laid_out rs

-- the last cell of each run
abbrev pub ends_of : Point → List Stretch → List Point
ends_of x [] = []
ends_of x (r ∷ rs) = walk r.heading r.steps x ∷ ends_of (walk r.heading r.steps x) rs

-- the counts of all runs together
abbrev pub sum_of : List Stretch → Counts
sum_of [] = none
sum_of (r ∷ rs) = plus (many r.heading r.steps) (sum_of rs)

-- each run has a step at least, and another heading than the one before it, the first another than h
abbrev pub TurnsFrom : Heading → List Stretch → Type 0
TurnsFrom h [] = Unit {0}
TurnsFrom h (r ∷ rs) = (same h r.heading ≡ false) × (1 ≤ r.steps) × TurnsFrom r.heading rs

-- each run has a step at least, and another heading than the one before it
abbrev pub Turning : List Stretch → Type 0
Turning [] = Unit {0}
Turning (r ∷ rs) = (1 ≤ r.steps) × TurnsFrom r.heading rs
