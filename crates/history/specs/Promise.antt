-- The promise over whole runs: any list of calls, in any order, refused ones included.
use Rattle.std.specs.Prelude.{◌≡◌, ℕ, ◌<◌, List, [], ◌∷◌, length, take, Some, slice_index_or}
use Rattle.floor.specs.declared.Counts.{Counts}
use Rattle.floor.specs.Plans.{Plan, opens, legal}
use Rattle.floor.specs.Routes.{Grows}
use Rattle.rate.specs.declared.Comparison.{Comparison}
use Rattle.rate.specs.Laws.{AtLeast, Lawful}
use Rattle.source.specs.Few.{Few}
use Rattle.history.specs.Calls.{Asked, Told, State, fresh, next, after_all, Right, Alike, length_in}

-- what the first i calls to a fresh planner leave: the calls alone say which cells are open
abbrev pub state_at : ℕ → ℕ → List Asked → ℕ → State
state_at rows cols calls i = after_all (fresh rows cols) (take i calls)

-- each call in its turn is answered as is right in the state that the calls before it left
abbrev pub AnsweredInTurn : (Counts → Counts → Comparison) → State → List Asked → List Told → Type 0
AnsweredInTurn order s [] [] = Unit {0}
AnsweredInTurn order s [] (x ∷ xs) = ⊥
AnsweredInTurn order s (a ∷ more) [] = ⊥
AnsweredInTurn order s (a ∷ more) (x ∷ xs) = Right order legal s a x × AnsweredInTurn order (next s a) more xs

module _ (order : Counts → Counts → Comparison) (rows cols : ℕ) (calls : List Asked) where
  -- Cheapest at every moment: each call has its answer, which is right in the state of that moment.
  pub record CheapestAtEveryMoment (answers : List Told) : Type 0 where
    pub all : length answers ≡ length calls
    pub each : (i : ℕ) (a : Asked) (x : Told) → i < length calls →
        Right order legal (state_at rows cols calls i) (slice_index_or calls i a) (slice_index_or answers i x)

  -- More open cells never cost more: where the same call is made twice, once with all cells open that are open the other time, and the other
  -- got a length, so does this one, and it is no dearer.
  abbrev pub MoreOpenCellsNeverCostMore : List Told → Type 0
  MoreOpenCellsNeverCostMore answers =
      (i j : ℕ) (a : Asked) (x : Told) → i < length calls → j < length calls → slice_index_or calls i a ≡ slice_index_or calls j a →
      Grows (opens (state_at rows cols calls i).plan) (opens (state_at rows cols calls j).plan) →
      (n : Counts) → length_in (slice_index_or answers i x) ≡ Some n →
      (m : Counts) × (length_in (slice_index_or answers j x) ≡ Some m) × AtLeast order n m

-- plans of as many rows and columns
abbrev pub SameSize : Plan → Plan → Type 0
SameSize p q = (p.rows ≡ q.rows) × (p.cols ≡ q.cols)

-- The same for any two sources: at every position that both answer, answers that an office cannot tell apart.
abbrev pub TheSameForAnyTwoSources : (Counts → Counts → Comparison) → List Told → List Told → Type 0
TheSameForAnyTwoSources order first second =
    (i : ℕ) (x : Told) → i < length first → i < length second → Alike order (slice_index_or first i x) (slice_index_or second i x)

-- The promises, of calls and answers alone: they hold under every lawful order, on floors of every size, whatever is asked and whoever answers,
-- where each answer is right in its turn.
abbrev pub RunsKeepTheirPromises : Type 0
RunsKeepTheirPromises =
    (order : Counts → Counts → Comparison) → Lawful order → (rows cols : ℕ) → Few rows cols → (calls : List Asked) (answers others : List Told) →
    AnsweredInTurn order (fresh rows cols) calls answers → AnsweredInTurn order (fresh rows cols) calls others →
    CheapestAtEveryMoment order rows cols calls answers × MoreOpenCellsNeverCostMore order rows cols calls answers ×
    TheSameForAnyTwoSources order answers others
