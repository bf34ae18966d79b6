-- Calls of a planner and their answers, and what calls make of a floor, by the calls alone.
use Rattle.std.specs.Prelude.{◌≡◌, ℕ, Bool, true, false, List, [], ◌∷◌, length, None, Option, Result, option_to_list}
use Rattle.std.specs.List.{AllByRecursion, zip}
use Rattle.std.specs.Option.{option_map}
use Rattle.std.specs.Result.{result_ok, result_err}
use Rattle.floor.specs.declared.Cell.{Cell}
use Rattle.floor.specs.declared.Counts.{Counts}
use Rattle.floor.specs.Plans.{Plan, closed}
use Rattle.floor.specs.Routes.{Laying}
use Rattle.rate.specs.declared.Comparison.{Comparison}
use Rattle.rate.specs.declared.Comparison.TheVariants.{Same}
use Rattle.lengths.specs.declared.answers.Refusal.{Refusal}
use Rattle.lengths.specs.Questions.{number}
use Rattle.lengths.specs.Answers.{LengthTold, RouteTold}
use Rattle.planner.specs.declared.answers.LoopRefusal.{LoopRefusal}
use Rattle.planner.specs.Loops.{after, mark_answer, loop_number, loop_leg, LoopTold, NoCheaperTour}

-- A call with what it is about, and the lengths of the lists that it is lent.
pub data Asked : Type 0 where
  to_open : (cell : Cell) → Asked
  to_close : (cell : Cell) → Asked
  a_length : (start target : Cell) (entries waiting : ℕ) → Asked
  a_route : (start target : Cell) (entries waiting corners : ℕ) → Asked
  a_loop : (cells : List Cell) (entries waiting legs : ℕ) → Asked

-- An answer, with what the call wrote for the office: the corners of a route, the counts of a loop's legs.
pub data Told : Type 0 where
  changed : Result Bool Refusal → Told
  cost : Result Counts Refusal → Told
  drawn : Result Counts Refusal → List Cell → Told
  toured : Result Counts LoopRefusal → List Counts → Told

-- what calls leave of a planner
pub record State : Type 0 where
  pub plan : Plan

-- before any call: no cell is open
abbrev pub fresh : ℕ → ℕ → State
fresh rows cols = record { plan = closed rows cols }

-- an open or close whose cell is inside sets that cell; every other call changes nothing
abbrev pub next : State → Asked → State
next s (to_open c) = record { plan = after s.plan c true }
next s (to_close c) = record { plan = after s.plan c false }
next s (a_length a b w v) = s
next s (a_route a b w v c) = s
next s (a_loop cs w v l) = s

-- the plan that a call leaves
abbrev pub after_call : Plan → Asked → Plan
after_call p a = (next (record { plan = p }) a).plan

-- what the calls of a list leave, one after another
abbrev pub after_all : State → List Asked → State
after_all s [] = s
after_all s (a ∷ more) = after_all (next s a) more

-- The answer is what the subject says for the call, in the state of that moment: whether the cell changed; a length; a route by its
-- corners; a loop leg by leg, with a total than which no route for the whole loop is cheaper; each with its refusals.
abbrev pub Right : (Counts → Counts → Comparison) → Laying → State → Asked → Told → Type 0
Right order may s (to_open c) x = x ≡ changed (mark_answer s.plan c true)
Right order may s (to_close c) x = x ≡ changed (mark_answer s.plan c false)
Right order may s (a_length a b w v) x = (r : Result Counts Refusal) × (x ≡ cost r) × LengthTold order may s.plan a b w v r
Right order may s (a_route a b w v c) x =
    (r : Result Counts Refusal) × (cs : List Cell) × (x ≡ drawn r cs) × RouteTold order may s.plan a b w v c cs r
Right order may s (a_loop cells w v l) x =
    (r : Result Counts LoopRefusal) × (ns : List Counts) × (x ≡ toured r ns) ×
    LoopTold order may s.plan cells w v l ns r × NoCheaperTour order may s.plan cells r

-- the refusal that an answer is, by its number and its leg; only a loop's names a leg, and the others have 0
abbrev pub refused : Told → Option (ℕ × ℕ)
refused (changed r) = option_map (λ e. (number e, 0)) (result_err r)
refused (cost r) = option_map (λ e. (number e, 0)) (result_err r)
refused (drawn r cs) = option_map (λ e. (number e, 0)) (result_err r)
refused (toured r ns) = option_map (λ e. (loop_number e, loop_leg e)) (result_err r)

-- whether a cell changed, where the answer says it
abbrev pub change : Told → Option Bool
change (changed r) = result_ok r
change (cost r) = None
change (drawn r cs) = None
change (toured r ns) = None

-- the length that an answer gives, if it gives one: of a loop its total
abbrev pub length_in : Told → Option Counts
length_in (changed r) = None
length_in (cost r) = result_ok r
length_in (drawn r cs) = result_ok r
length_in (toured r ns) = result_ok r

-- the legs' counts that an answer comes with
abbrev pub legs_in : Told → List Counts
legs_in (changed r) = []
legs_in (cost r) = []
legs_in (drawn r cs) = []
legs_in (toured r ns) = ns

-- as many counts, each of which costs the same as the other
abbrev pub SameCosts : (Counts → Counts → Comparison) → List Counts → List Counts → Type 0
SameCosts order ns ms = (length ns ≡ length ms) × AllByRecursion (λ n. order n.0 n.1 ≡ Same) (zip ns ms)

-- Two answers that an office cannot tell apart by refusal, leg, change or cost.
pub record Alike (order : Counts → Counts → Comparison) (x y : Told) : Type 0 where
  pub refusals : refused x ≡ refused y
  pub changes : change x ≡ change y
  pub lengths : SameCosts order (option_to_list (length_in x)) (option_to_list (length_in y))
  pub legs : SameCosts order (legs_in x) (legs_in y)
