-- What a loop leaves in the lists that it is lent.
use Rattle.std.specs.Prelude.{◌≡◌, ℕ, List, ◌++◌, length, drop, Result, ◌≢◌}
use Rattle.floor.specs.declared.Cell.{Cell}
use Rattle.floor.specs.declared.Counts.{Counts}
use Rattle.floor.specs.Plans.{Plan}
use Rattle.floor.specs.Routes.{Laying}
use Rattle.rate.specs.declared.Comparison.{Comparison}
use Rattle.cheapest.specs.Cheapest.{Leg}
use Rattle.lengths.specs.declared.answers.Refusal.TheVariants.{NoRoute}
use Rattle.planner.specs.declared.answers.LoopRefusal.{LoopRefusal}
use Rattle.planner.specs.declared.answers.LoopRefusal.TheVariants as loop
use Rattle.planner.specs.declared.answers.LoopRefusal.TheVariants.{CellCount, ShortLegs}
use Rattle.planner.specs.Loops.{LoopTold, NoCheaperTour}

-- the leg from one cell to another
abbrev pub between : Cell → Cell → Leg
between s t = record { from = s; to = t }

-- refused before anything was searched: by the questions about the loop, or at leg 1 for anything but that it has no route
abbrev pub Unsearched : LoopRefusal → Type 0
Unsearched CellCount = Unit {0}
Unsearched ShortLegs = Unit {0}
Unsearched (loop.Leg k e) = (k ≡ 1) × (e ≢ NoRoute)

-- The counts of the legs that were measured, in their order, stand at the front of the leg list; past them it is as it was before. They are
-- the counts by which the loop is answered; and no route for the whole loop is cheaper than its total.
pub record Toured (order : Counts → Counts → Comparison) (may : Laying) (p : Plan) (cells : List Cell) (w v : ℕ) (before after : List Counts) (r : Result Counts LoopRefusal) : Type 0 where
  pub measured : List Counts
  pub written : after ≡ measured ++ drop (length measured) before
  pub told : LoopTold order may p cells w v (length before) measured r
  pub whole : NoCheaperTour order may p cells r
