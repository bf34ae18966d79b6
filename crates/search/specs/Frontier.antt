-- What holds of a search between its calls, and what stays as it goes on.
use Rattle.std.specs.Prelude.{◌≡◌, ℕ, ◌^◌, ◌<◌, ◌≤◌, length, Option}
use Rattle.floor.specs.declared.Counts.{Counts}
use Rattle.floor.specs.Tally.{steps}
use Rattle.rate.specs.declared.Comparison.{Comparison}
use Rattle.waiting.specs.Held.{held}
use Rattle.search.specs.declared.graph.Position.{Position}
use Rattle.search.specs.declared.graph.Edge.{Edge}
use Rattle.search.specs.declared.entry.Reached.{Reached}
use Rattle.search.specs.declared.frontier.Frontier.{Frontier}
use Rattle.search.specs.Chain.{most}
use Rattle.search.specs.Mark.{marks}
use Rattle.search.specs.Search.{Search}
use Rattle.search.specs.Queue.{Queue}

module _ {R : Type 0} (by : R → Counts → Counts → Comparison) where
  -- what waits is the queue, and there is room for every place
  pub record Queued (f : Frontier R) : Type 0 where
    pub few : length f.entries.now ≤ 2 ^ 32
    pub roomy : length f.entries.now ≤ length f.places.now.slots.now
    pub queue : Queue (by f.rate.now) f.entries.now (held f.places.now)

  -- the search and its queue, as the edges of q from turn on are to be followed
  pub record Standing (out : Position → ℕ → Option Edge) (f : Frontier R) (q : Position) (base : Reached) (turn : ℕ) : Type 0 where
    pub search : Search out (by f.rate.now) (marks f.entries.now) q base turn
    pub queued : Queued f

-- p is one of its places, and the counts of r are few enough steps for an entry
abbrev pub Offered : {R : Type 0} → Frontier R → ℕ → Reached → Type 0
Offered f p r = (p < length f.entries.now) × (steps r.counts ≤ most)

-- its rate is the same, it has as many places, and its entries are the same lent memory
pub record SameFrontier {R : Type 0} (old new : Frontier R) : Type 0 where
  pub rate : new.rate.now ≡ old.rate.now
  pub size : length new.entries.now ≡ length old.entries.now
  pub lender : new.entries.ghost_name ≡ old.entries.ghost_name
