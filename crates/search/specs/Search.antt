-- What a search keeps as it goes on, and what its answer says.
use Rattle.std.specs.Prelude.{◌≡◌, ℕ, ◌+◌, ◌<◌, ◌≤◌, Bool, true, ◌⊎◌, Some, Option, ◌≢◌}
use Rattle.floor.specs.declared.Counts.{Counts}
use Rattle.floor.specs.Tally.{none, plus, steps, blocks}
use Rattle.rate.specs.declared.Comparison.{Comparison}
use Rattle.rate.specs.Laws.{AtLeast}
use Rattle.rate.specs.Facts.{LessThan}
use Rattle.search.specs.declared.graph.Position.{Position}
use Rattle.search.specs.declared.graph.Position.TheVariants.{Start, Place}
use Rattle.search.specs.declared.graph.Edge.{Edge}
use Rattle.search.specs.declared.entry.Reached.{Reached}
use Rattle.search.specs.Chain.{most, Chain}
use Rattle.search.specs.Mark.{Mark, Waits, Done, reached, standing, Becomes}

-- x costs no more than y
abbrev pub NoDearer : (Counts → Counts → Comparison) → Counts → Counts → Type 0
NoDearer order x y = AtLeast order y x

-- the place k was met, and is reached so
abbrev pub Seen : (ℕ → Mark) → ℕ → Reached → Type 0
Seen s k r = (s k ≡ Waits r) ⊎ (s k ≡ Done r)

-- k was reached as r says, by an edge out of a finished position: the way back
pub record Made (out : Position → ℕ → Option Edge) (s : ℕ → Mark) (k : ℕ) (r : Reached) : Type 0 where
  pub base : Reached
  pub done : standing s r.from ≡ Done base
  pub turn : ℕ
  pub one_of : turn < 8
  pub edge : Edge
  pub is : out r.from turn ≡ Some edge
  pub to : edge.to ≡ k
  pub sum : r.counts ≡ plus base.counts edge.counts
  pub bound : steps r.counts ≤ most

-- the way back from every finished place
abbrev pub Traced : (Position → ℕ → Option Edge) → (ℕ → Mark) → Type 0
Traced out s = (k : ℕ) (r : Reached) → s k ≡ Done r → Made out s k r

-- the way back from a position, over so many edges with these counts in all
pub data Back (out : Position → ℕ → Option Edge) (s : ℕ → Mark) : Position → Counts → ℕ → Type 0 where
  home : Back out s Start none 0
  hop : (k : ℕ) (r : Reached) (n : ℕ) → s k ≡ Done r → (m : Made out s k r) → Back out s r.from m.base.counts n → Back out s (Place k) r.counts (n + 1)

-- the edge e out of what was finished as b has been followed
pub record Followed (order : Counts → Counts → Comparison) (s : ℕ → Mark) (b : Reached) (e : Edge) : Type 0 where
  pub by : Reached
  pub seen : Seen s e.to by
  pub cheap : NoDearer order by.counts (plus b.counts e.counts)

module _ (out : Position → ℕ → Option Edge) (order : Counts → Counts → Comparison) (s : ℕ → Mark) where
  -- The edges of every finished position have been followed, but for those of q from turn on; q, which was finished last, as base says.
  pub record Search (q : Position) (base : Reached) (turn : ℕ) : Type 0 where
    pub here : standing s q ≡ Done base
    pub top : (k : ℕ) (r : Reached) → s k ≡ Done r → NoDearer order r.counts base.counts
    pub made : (k : ℕ) (r : Reached) → Seen s k r → Made out s k r
    pub chained : (k : ℕ) (r : Reached) → Seen s k r → Chain out (Place k) r.counts
    pub closed : (p : Position) (b : Reached) (t : ℕ) (e : Edge) → standing s p ≡ Done b → (p ≡ q → t < turn) → t < 8 → out p t ≡ Some e → steps (plus b.counts e.counts) ≤ most → Followed order s b e
    pub ordered : (k j : ℕ) (r b : Reached) → s k ≡ Waits r → s j ≡ Done b → NoDearer order b.counts r.counts
    pub best : (k : ℕ) (r : Reached) (c : Counts) → s k ≡ Done r → Chain out (Place k) c → blocks c ≤ most → NoDearer order r.counts c
    pub passed : (k : ℕ) (c : Counts) → Chain out (Place k) c → blocks c ≤ most → LessThan order c base.counts → (b : Reached) × (s k ≡ Done b)

-- What it does to note that p can be reached as new: it waits so now; or nothing, since it waited and cost no more, or was finished.
pub data Noted (order : Counts → Counts → Comparison) (s s' : ℕ → Mark) (p : ℕ) (new : Reached) : Type 0 where
  wrote : ((b : Reached) → s p ≢ Done b) → ((b : Reached) → s p ≡ Waits b → NoDearer order new.counts b.counts) → Becomes s s' p (Waits new) → Noted order s s' p new
  no_gain : s' ≡ s → (r : Reached) → s p ≡ Waits r → NoDearer order r.counts new.counts → Noted order s s' p new
  settled : s' ≡ s → (r : Reached) → s p ≡ Done r → Noted order s s' p new

module _ (out : Position → ℕ → Option Edge) (order : Counts → Counts → Comparison) (goal : ℕ → Bool) where
  -- p is a goal, and c are the counts of a cheapest chain to any goal. Every finished place has the counts of a cheapest chain to it,
  -- and the way back; and every place that has a cheaper chain than c is finished.
  pub record Cheapest (s : ℕ → Mark) (p : ℕ) (c : Counts) : Type 0 where
    pub hit : goal p ≡ true
    pub from : Position
    pub there : s p ≡ Done (reached c from)
    pub cheapest : (k : ℕ) (c' : Counts) → goal k ≡ true → Chain out (Place k) c' → AtLeast order c' c
    pub chained : (k : ℕ) (r : Reached) → s k ≡ Done r → Chain out (Place k) r.counts
    pub best : (k : ℕ) (r : Reached) (c' : Counts) → s k ≡ Done r → Chain out (Place k) c' → AtLeast order c' r.counts
    pub passed : (k : ℕ) (c' : Counts) → Chain out (Place k) c' → LessThan order c' c → (r : Reached) × (s k ≡ Done r)
    pub made : Traced out s

  -- no chain leads to a goal
  abbrev pub NoWay : Type 0
  NoWay = (k : ℕ) (c : Counts) → goal k ≡ true → Chain out (Place k) c → ⊥
