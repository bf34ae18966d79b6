-- What the entries say of the places.
use Rattle.std.specs.Prelude.{◌≡◌, ℕ, zero, suc, ◌+◌, Bool, true, false, cond, List, length, get_or, ◌≢◌, slice_index_or}
use Rattle.floor.specs.declared.Counts.{Counts}
use Rattle.floor.specs.Tally.{counts, none}
use Rattle.search.specs.declared.graph.Position.{Position}
use Rattle.search.specs.declared.graph.Position.TheVariants.{Start, Place}
use Rattle.search.specs.declared.entry.State.{State}
use Rattle.search.specs.declared.entry.State.TheVariants.{Unseen, Waiting, Finished}
use Rattle.search.specs.declared.entry.Reached.{Reached}
use Rattle.search.specs.declared.entry.Entry.{Entry}

-- reached with these counts, from this position
abbrev pub reached : Counts → Position → Reached
reached c p = record { counts = c; from = p }

-- a place was not met yet, or it waits or is done, reached so
pub data Mark : Type 0 where
  Unmet : Mark
  Waits : Reached → Mark
  Done : Reached → Mark

-- how an entry says that its place was reached
abbrev pub way : Entry → Reached
way e = reached (counts e.straight e.diagonal) (cond e.direct Start (Place e.from))

-- what a state says of a place that is reached so
abbrev pub marked : State → Reached → Mark
marked Unseen r = Unmet
marked Waiting r = Waits r
marked Finished r = Done r

-- what an entry says of its place
abbrev pub mark : Entry → Mark
mark e = marked e.state (way e)

-- the entry of a place that was not met yet
abbrev pub blank : Entry
blank = record { straight = 0; diagonal = 0; from = 0; slot = 0; state = Unseen; direct = false }

-- whether a position is the start
abbrev pub is_start : Position → Bool
is_start Start = true
is_start (Place k) = false

-- the number of a place, and 0 for the start
abbrev pub number_of : Position → ℕ
number_of Start = 0
number_of (Place k) = k

-- the entry of a place that waits, until the heap tells where it stands
abbrev pub waiting_by : Reached → Entry
waiting_by r = record { straight = r.counts.straight; diagonal = r.counts.diagonal; from = number_of r.from; slot = 0; state = Waiting; direct = is_start r.from }

-- what the entries say, place by place
unfoldable pub marks : List Entry → ℕ → Mark
marks es k = mark (slice_index_or es k blank)

-- where in the heap the entries say that the places stand
unfoldable pub slots : List Entry → ℕ → ℕ
slots es k = (get_or es k blank).slot

-- whether a place waits
abbrev pub is_waiting : Mark → Bool
is_waiting Unmet = false
is_waiting (Waits r) = true
is_waiting (Done r) = false

-- whether a place is done
abbrev pub is_done : Mark → Bool
is_done Unmet = false
is_done (Waits r) = false
is_done (Done r) = true

-- how a place was reached that was met
abbrev pub how : Mark → Reached
how Unmet = reached none Start
how (Waits r) = r
how (Done r) = r

-- what places wait by: the counts with which they were reached
abbrev pub key : Mark → Counts
key m = (how m).counts

-- The start counts as done, with no steps.
abbrev pub standing : (ℕ → Mark) → Position → Mark
standing s Start = Done (reached none Start)
standing s (Place k) = s k

-- s' is s with m at k
pub record Becomes (s s' : ℕ → Mark) (k : ℕ) (m : Mark) : Type 0 where
  pub at : s' k ≡ m
  pub off : (j : ℕ) → (j ≢ k) → s' j ≡ s j

-- how many numbers below n pass f
unfoldable pub count : (ℕ → Bool) → ℕ → ℕ
count f zero = 0
count f (suc n) = cond (f n) 1 0 + count f n

-- which places are finished, and how many
unfoldable pub finished : List Entry → ℕ → Bool
finished es k = is_done (marks es k)

unfoldable pub finishes : List Entry → ℕ
finishes es = count (finished es) (length es)
