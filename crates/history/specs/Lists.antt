-- What a call leaves in the lists that it is lent.
use Rattle.std.specs.Prelude.{◌≡◌, ◌≤◌, List, length, drop, Some, None, MatchResult, Option, ◌≢◌}
use Rattle.std.specs.Option.{option_map}
use Rattle.std.specs.Result.{result_ok}
use Rattle.floor.specs.declared.Cell.{Cell}
use Rattle.floor.specs.declared.Counts.{Counts}
use Rattle.floor.specs.Plans.{Plan, legal}
use Rattle.rate.specs.declared.Comparison.{Comparison}
use Rattle.search.specs.declared.entry.Entry.{Entry}
use Rattle.search.specs.declared.Waiter.{Waiter}
use Rattle.lengths.specs.declared.answers.Measured.{Measured}
use Rattle.lengths.specs.declared.answers.Refusal.TheVariants.{NoRoute}
use Rattle.lengths.specs.Questions.{places}
use Rattle.lengths.specs.Lists.{of_places}
use Rattle.lengths.specs.Searched.{Searched}
use Rattle.planner.specs.Touring as loop
use Rattle.history.specs.declared.calls.Asks.{Asks}
use Rattle.history.specs.declared.calls.Asks.TheVariants as asks
use Rattle.history.specs.declared.calls.Answer.{Answer}
use Rattle.history.specs.declared.calls.Answer.TheVariants as answer
use Rattle.history.specs.Calls.{Right}
use Rattle.history.specs.declared.calls.Rooms.{Rooms}
use Rattle.history.specs.Records.{asked, told, corners_written, legs_written}

-- the lists that a call is lent, as they are at one moment
pub record Lists : Type 0 where
  pub entries : List Entry
  pub waiting : List Waiter
  pub corners : List Cell
  pub legs : List Counts

-- these lists
abbrev pub lists : List Entry → List Waiter → List Cell → List Counts → Lists
lists es vs cs ns = record { entries = es; waiting = vs; corners = cs; legs = ns }

-- how much room they have
abbrev pub rooms : List Entry → List Waiter → List Cell → List Counts → Rooms
rooms es vs cs ns = record { entries = length es; waiting = length vs; corners = length cs; legs = length ns }

-- the same of lists that stand together
abbrev pub rooms_of : Lists → Rooms
rooms_of l = rooms l.entries l.waiting l.corners l.legs

-- the two ends, if one length is asked for, with its route or without
abbrev pub ends_of : Asks → Option (Cell × Cell)
ends_of (asks.Open c) = None
ends_of (asks.Close c) = None
ends_of (asks.Length s t) = Some (s, t)
ends_of (asks.Route s t) = Some (s, t)
ends_of (asks.Loop cs) = None

-- that length, with the number of places finished for it
abbrev pub measured_in : Answer → Option Measured
measured_in (answer.Changed r) = None
measured_in (answer.Length r) = result_ok r
measured_in (answer.Route r) = option_map (λ n. n.measured) (result_ok r)
measured_in (answer.Loop r n) = None

-- answered before anything was searched
abbrev pub Unsearched : Answer → Type 0
Unsearched (answer.Changed r) = Unit {0}
Unsearched (answer.Length r) = MatchResult r (λ _. ⊥) (λ e. e ≢ NoRoute)
Unsearched (answer.Route r) = MatchResult r (λ _. ⊥) (λ e. e ≢ NoRoute)
Unsearched (answer.Loop r n) = MatchResult r (λ _. ⊥) loop.Unsearched

-- What a call leaves in the work lists, by its answer: after a length the entries of all places hold what the search for it finished; what lies
-- past them is as it was; and where nothing was searched, both lists are as they were.
pub record Worked (order : Counts → Counts → Comparison) (p : Plan) (k : Asks) (x : Answer) (old new : Lists) : Type 0 where
  pub searched : (s t : Cell) (n : Measured) → ends_of k ≡ Some (s, t) → measured_in x ≡ Some n → Searched order p s t (of_places p new.entries) n
  pub entries : drop (places p) new.entries ≡ drop (places p) old.entries
  pub waiting : drop (places p) new.waiting ≡ drop (places p) old.waiting
  pub same : Unsearched x → (new.entries ≡ old.entries) × (new.waiting ≡ old.waiting)

-- What a call is answered in a plan, and what it leaves in its lists: what was written stands at the front, and past it they are as they were.
pub record Put (order : Counts → Counts → Comparison) (p : Plan) (k : Asks) (x : Answer) (old new : Lists) : Type 0 where
  pub right : Right order legal (record { plan = p }) (asked k (rooms_of old)) (told x new.corners new.legs)
  pub work : Worked order p k x old new
  pub few_corners : corners_written x ≤ length old.corners
  pub few_legs : legs_written x ≤ length old.legs
  pub past_corners : drop (corners_written x) new.corners ≡ drop (corners_written x) old.corners
  pub past_legs : drop (legs_written x) new.legs ≡ drop (legs_written x) old.legs
  pub as_long : rooms_of new ≡ rooms_of old
