-- A run of calls over lent lists: what it promises of its answers, of the source between the calls, and of the lists.
use Rattle.std.specs.Prelude.{◌≡◌, ℕ, ◌≤◌, true, List, [], ◌∷◌, length, take, drop}
use Rattle.std.specs.List.{AllByRecursion, sum_by}
use Rattle.floor.specs.declared.Counts.{Counts}
use Rattle.floor.specs.Plans.{Plan}
use Rattle.rate.specs.declared.Comparison.{Comparison}
use Rattle.search.specs.declared.entry.Entry.{Entry}
use Rattle.search.specs.declared.Waiter.{Waiter}
use Rattle.history.specs.declared.calls.Call.{Call}
use Rattle.history.specs.declared.calls.Answer.{Answer}
use Rattle.history.specs.declared.calls.Tape.{Tape}
use Rattle.history.specs.Calls.{Told, State, fresh, next, after_all}
use Rattle.history.specs.Records.{asked, all_asked, corners_written, legs_written, is_refused, all_told}
use Rattle.history.specs.Lists.{Lists, lists, Worked}
use Rattle.history.specs.Promise.{AnsweredInTurn, CheapestAtEveryMoment, MoreOpenCellsNeverCostMore}

-- what is lent suffices for all calls: for each of them by itself where they share a list, and else for all together
pub record Suffices (calls : List Call) (tape : Tape) : Type 0 where
  pub work : AllByRecursion (λ k. (k.rooms.entries ≤ length tape.entries.now) × (k.rooms.waiting ≤ length tape.waiting.now)) calls
  pub corners : sum_by (λ k. k.rooms.corners) calls ≤ length tape.corners.now
  pub legs : sum_by (λ k. k.rooms.legs) calls ≤ length tape.legs.now
  pub answers : length calls ≤ length tape.answers.now

-- a source and the two work lists, as they are between two calls
pub record Moment (S : Type 0) : Type 0 where
  pub source : S
  pub entries : List Entry
  pub waiting : List Waiter

-- the moment at which a tape holds these work lists
abbrev pub moment : {S : Type 0} → S → Tape → Moment S
moment source tape = record { source = source; entries = tape.entries.now; waiting = tape.waiting.now }

-- of the work lists of a moment, the fronts that a call is lent
abbrev pub fronts : {S : Type 0} → Call → Moment S → Lists
fronts k m = lists (take k.rooms.entries m.entries) (take k.rooms.waiting m.waiting) [] []

-- what the first n answers on a tape tell
abbrev pub told_on : ℕ → Tape → List Told
told_on n tape = all_told (take n tape.answers.now) tape.corners.now tape.legs.now

-- how many corners, and how many legs' counts, were written for the first n answers on a tape
abbrev pub corners_on : ℕ → Tape → ℕ
corners_on n tape = sum_by corners_written (take n tape.answers.now)

abbrev pub legs_on : ℕ → Tape → ℕ
legs_on n tape = sum_by legs_written (take n tape.answers.now)

-- what lies past n answers and what was written for them is as it was
pub record Past (n : ℕ) (old new : Tape) : Type 0 where
  pub answers : drop n new.answers.now ≡ drop n old.answers.now
  pub corners : drop (corners_on n new) new.corners.now ≡ drop (corners_on n new) old.corners.now
  pub legs : drop (legs_on n new) new.legs.now ≡ drop (legs_on n new) old.legs.now

module _ {S : Type 0} (meaning : S → Plan) (lent intact : S → S → Type 0) (order : Counts → Counts → Comparison) where
  -- What one call leaves, by its answer: of the two work lists the fronts that it was lent, as the planner's calls promise, and the rest as it was;
  -- the source on the same memory, which is as it was if the call was refused.
  pub record Left (k : Call) (x : Answer) (m n : Moment S) : Type 0 where
    pub front : Worked order (meaning m.source) k.asks x (fronts k m) (fronts k n)
    pub entries : drop k.rooms.entries n.entries ≡ drop k.rooms.entries m.entries
    pub waiting : drop k.rooms.waiting n.waiting ≡ drop k.rooms.waiting m.waiting
    pub memory : lent m.source n.source
    pub refused : is_refused x ≡ true → intact m.source n.source

  -- Call by call: before each of them, and after the last, the source means the plan of that moment, which the calls alone say.
  pub data InTurn : State → List Call → List Answer → Moment S → Moment S → Type 0 where
    ended : {s : State} {m : Moment S} → meaning m.source ≡ s.plan → InTurn s [] [] m m
    onward : {s : State} {k : Call} {more : List Call} {x : Answer} {xs : List Answer} {m n : Moment S} (mid : Moment S) →
        meaning m.source ≡ s.plan → Left k x m mid → InTurn (next s (asked k.asks k.rooms)) more xs mid n → InTurn s (k ∷ more) (x ∷ xs) m n

  -- What a run of n calls promises, whatever the lists held: where they suffice for all calls, all are put; each answer is right in its turn; and
  -- what each call leaves of the source and of the lists.
  pub record Ran (s : State) (calls : List Call) (n : ℕ) (source source' : S) (old new : Tape) : Type 0 where
    pub few : n ≤ length calls
    pub all : Suffices calls old → n ≡ length calls
    pub answered : AnsweredInTurn order s (all_asked (take n calls)) (told_on n new)
    pub in_turn : InTurn s (take n calls) (take n new.answers.now) (moment source old) (moment source' new)
    pub plan : meaning source' ≡ (after_all s (all_asked (take n calls))).plan
    pub past : Past n old new

  -- All that a run of n calls promises where a fresh planner is put them, over a source that may mean any plan before: each answer is the
  -- cheapest at its moment, more open cells never cost more, and what every run promises.
  pub record RunPromised (calls : List Call) (n : ℕ) (source source' : S) (old new : Tape) : Type 0 where
    pub cheapest_at_every_moment :
        CheapestAtEveryMoment order (meaning source).rows (meaning source).cols (all_asked (take n calls)) (told_on n new)
    pub more_open_cells_never_cost_more :
        MoreOpenCellsNeverCostMore order (meaning source).rows (meaning source).cols (all_asked (take n calls)) (told_on n new)
    -- the calls are put from where all cells of the source were closed, and all the while on the memory that it was lent on
    pub cleared : S
    pub ran : Ran (fresh (meaning source).rows (meaning source).cols) calls n cleared source' old new
    pub same_memory : lent source cleared
    pub memory : lent source source'
