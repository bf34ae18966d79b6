-- What a recorded call asks, and what a recorded answer tells.
use Rattle.std.specs.Prelude.{ℕ, ◌-◌, ◌≤◌, Bool, List, [], ◌∷◌, take, drop, map, Ok, Err, Result}
use Rattle.std.specs.Result.{is_err}
use Rattle.floor.specs.declared.Cell.{Cell}
use Rattle.floor.specs.declared.Counts.{Counts}
use Rattle.lengths.specs.Answers.{costs, drawn_costs, corner_count}
use Rattle.planner.specs.declared.answers.LoopRefusal.{LoopRefusal}
use Rattle.planner.specs.declared.answers.LoopRefusal.TheVariants as loop
use Rattle.history.specs.declared.calls.Asks.{Asks}
use Rattle.history.specs.declared.calls.Asks.TheVariants as asks
use Rattle.history.specs.declared.calls.Call.{Call}
use Rattle.history.specs.declared.calls.Rooms.{Rooms}
use Rattle.history.specs.declared.calls.Answer.{Answer}
use Rattle.history.specs.declared.calls.Answer.TheVariants as answer
use Rattle.history.specs.Calls.{Asked, to_open, to_close, a_length, a_route, a_loop, Told, changed, cost, drawn, toured}

-- each list with this room can be cut from what is left of one
pub record Fit (room left : Rooms) : Type 0 where
  pub entries : room.entries ≤ left.entries
  pub waiting : room.waiting ≤ left.waiting
  pub corners : room.corners ≤ left.corners
  pub legs : room.legs ≤ left.legs

-- what is asked, with lists of so much room
abbrev pub asked : Asks → Rooms → Asked
asked (asks.Open c) l = to_open c
asked (asks.Close c) l = to_close c
asked (asks.Length s t) l = a_length s t l.entries l.waiting
asked (asks.Route s t) l = a_route s t l.entries l.waiting l.corners
asked (asks.Loop cs) l = a_loop cs.now l.entries l.waiting l.legs

-- what the calls of a list ask, one after another
abbrev pub all_asked : List Call → List Asked
all_asked calls = map (λ k. asked k.asks k.rooms) calls

-- how many corners an answer says were written
abbrev pub corners_written : Answer → ℕ
corners_written (answer.Changed r) = 0
corners_written (answer.Length r) = 0
corners_written (answer.Route r) = corner_count r
corners_written (answer.Loop r n) = 0

-- how many legs' counts an answer says were written
abbrev pub legs_written : Answer → ℕ
legs_written (answer.Changed r) = 0
legs_written (answer.Length r) = 0
legs_written (answer.Route r) = 0
legs_written (answer.Loop r n) = n

-- whether an answer is a refusal
abbrev pub is_refused : Answer → Bool
is_refused (answer.Changed r) = is_err r
is_refused (answer.Length r) = is_err r
is_refused (answer.Route r) = is_err r
is_refused (answer.Loop r n) = is_err r

-- what an answer tells, with what was written at the front of a corner list and of a leg list
abbrev pub told : Answer → List Cell → List Counts → Told
told (answer.Changed r) cs ns = changed r
told (answer.Length r) cs ns = cost (costs r)
told (answer.Route r) cs ns = drawn (drawn_costs r) (take (corner_count r) cs)
told (answer.Loop r n) cs ns = toured r (take n ns)

-- what the answers of a list tell: what each call wrote follows what the calls before it wrote
abbrev pub all_told : List Answer → List Cell → List Counts → List Told
all_told [] cs ns = []
all_told (x ∷ xs) cs ns = told x cs ns ∷ all_told xs (drop (corners_written x) cs) (drop (legs_written x) ns)

-- how many legs of a loop of so many cells an answer says were measured
abbrev pub measured_legs : Result Counts LoopRefusal → ℕ → ℕ
measured_legs (Ok n) cells = cells
measured_legs (Err (loop.Leg k e)) cells = k - 1
measured_legs (Err loop.CellCount) cells = 0
measured_legs (Err loop.ShortLegs) cells = 0
