-- What the answer of a search says, with the entries that it leaves.
use Rattle.std.specs.Prelude.{◌≡◌, ℕ, Bool, List, Some, None, Option}
use Rattle.floor.specs.declared.Counts.{Counts}
use Rattle.rate.specs.declared.Comparison.{Comparison}
use Rattle.search.specs.declared.graph.Position.{Position}
use Rattle.search.specs.declared.graph.Edge.{Edge}
use Rattle.search.specs.declared.entry.Entry.{Entry}
use Rattle.search.specs.declared.Found.{Found}
use Rattle.search.specs.Mark.{marks, finishes}
use Rattle.search.specs.Search.{Cheapest, NoWay}

-- A goal was found, and so many places are finished; or no chain leads to a goal.
abbrev pub Answered : (Position → ℕ → Option Edge) → (Counts → Counts → Comparison) → (ℕ → Bool) → List Entry → Option Found → Type 0
Answered out order goal es (Some r) = Cheapest out order goal (marks es) r.place r.counts × (r.finished ≡ finishes es)
Answered out order goal es None = NoWay out order goal
