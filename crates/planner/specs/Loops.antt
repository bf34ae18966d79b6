-- What open, close and a loop are answered, by the plan of that moment.
use Rattle.std.specs.Prelude.{◌≡◌, ℕ, ◌+◌, Bool, true, false, cond, not, ◌&&◌, List, [], ◌∷◌, length, Some, None, Ok, Err, Option, Result, IfOk, nat_le}
use Rattle.floor.specs.declared.Cell.{Cell}
use Rattle.floor.specs.declared.Counts.{Counts}
use Rattle.floor.specs.Plans.{Plan, inside, is_open, marked}
use Rattle.floor.specs.Routes.{Laying}
use Rattle.rate.specs.declared.Comparison.{Comparison}
use Rattle.rate.specs.Laws.{AtLeast}
use Rattle.cheapest.specs.Cheapest.{Leg, legs, total, Tour}
use Rattle.lengths.specs.declared.answers.Refusal.{Refusal}
use Rattle.lengths.specs.Questions.{number, Question, ask, first_no, mark_questions}
use Rattle.lengths.specs.Answers.{LengthTold}
use Rattle.planner.specs.declared.answers.LoopRefusal.{LoopRefusal}
use Rattle.planner.specs.declared.answers.LoopRefusal.TheVariants as loop
use Rattle.planner.specs.declared.answers.LoopRefusal.TheVariants.{CellCount, ShortLegs}

-- whether two answers to 'is it open?' differ
abbrev pub differ : Bool → Bool → Bool
differ true b = not b
differ false b = b

-- the plan after a cell is opened or closed; a cell outside changes nothing
abbrev pub after : Plan → Cell → Bool → Plan
after p c b = cond (inside p c) (marked p c b) p

-- opening or closing a cell answers whether that changed it
abbrev pub mark_answer : Plan → Cell → Bool → Result Bool Refusal
mark_answer p c b = elim (first_no (mark_questions p c)) [ Some e ↦ Err e | None ↦ Ok (differ b (is_open p c)) ]

-- the number of each refusal of a loop
abbrev pub loop_number : LoopRefusal → ℕ
loop_number CellCount = 8
loop_number ShortLegs = 9
loop_number (loop.Leg k e) = number e

-- the leg that a refusal names, from 1; 0 where it names none
abbrev pub loop_leg : LoopRefusal → ℕ
loop_leg CellCount = 0
loop_leg ShortLegs = 0
loop_leg (loop.Leg k e) = k

-- a loop, before its legs: are there 2 to 64 cells, and is the leg list at least as long?
abbrev pub loop_questions : List Cell → ℕ → List (Question LoopRefusal)
loop_questions cells l = ask (nat_le 2 (length cells) && nat_le (length cells) 64) CellCount ∷ ask (nat_le (length cells) l) ShortLegs ∷ []

-- A loop leg by leg, from leg k on: ns are the counts of the legs that were measured, each answered as a length is. The loop ends with the total of
-- all that was written, or at the first leg that is refused.
abbrev pub Looped : (Counts → Counts → Comparison) → Laying → Plan → ℕ → ℕ → List Counts → ℕ → List Leg → List Counts → Result Counts LoopRefusal → Type 0
Looped order may p w v written k [] [] r = r ≡ Ok (total written)
Looped order may p w v written k [] (n ∷ ns) r = ⊥
Looped order may p w v written k (l ∷ ls) [] r = (e : Refusal) × (r ≡ Err (loop.Leg k e)) × LengthTold order may p l.from l.to w v (Err e)
Looped order may p w v written k (l ∷ ls) (n ∷ ns) r = LengthTold order may p l.from l.to w v (Ok n) × Looped order may p w v written (k + 1) ls ns r

-- a loop once its two questions are put
abbrev pub LoopBy : (Counts → Counts → Comparison) → Laying → Plan → List Cell → ℕ → ℕ → List Counts → Option LoopRefusal → Result Counts LoopRefusal → Type 0
LoopBy order may p cells w v ns (Some e) r = (r ≡ Err e) × (ns ≡ [])
LoopBy order may p cells w v ns None r = Looped order may p w v ns 1 (legs cells) ns r

-- a loop of cells with a leg list of length l
abbrev pub LoopTold : (Counts → Counts → Comparison) → Laying → Plan → List Cell → ℕ → ℕ → ℕ → List Counts → Result Counts LoopRefusal → Type 0
LoopTold order may p cells w v l ns r = LoopBy order may p cells w v ns (first_no (loop_questions cells l)) r

-- where a loop through these cells is answered with a total, no route for the whole loop is cheaper
abbrev pub NoCheaperTour : (Counts → Counts → Comparison) → Laying → Plan → List Cell → Result Counts LoopRefusal → Type 0
NoCheaperTour order may p cells r = IfOk r (λ n. (ms : List Counts) → Tour may p (legs cells) ms → AtLeast order (total ms) n)
