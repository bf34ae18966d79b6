-- What a batch of queries is answered: each in the plan that the queries before it left.
use Rattle.std.specs.Prelude.{◌≡◌, ℕ, ◌*◌, ◌<◌, Bool, true, false, List, [], ◌∷◌, length, take, drop, Result, slice_index_or}
use Rattle.floor.specs.declared.Counts.{Counts}
use Rattle.floor.specs.Plans.{Plan, closed, legal}
use Rattle.rate.specs.declared.Comparison.{Comparison}
use Rattle.lengths.specs.declared.answers.Refusal.{Refusal}
use Rattle.lengths.specs.declared.answers.Measured.{Measured}
use Rattle.lengths.specs.Answers.{costs, LengthTold}
use Rattle.planner.specs.Loops.{after, mark_answer}
use Rattle.boundary.specs.declared.numbers.Action.{Action}
use Rattle.boundary.specs.declared.numbers.Action.TheVariants.{Close, Open, Measure}
use Rattle.boundary.specs.declared.numbers.Query.{Query}
use Rattle.boundary.specs.declared.numbers.Reply.{Reply}
use Rattle.boundary.specs.Numbers.{action_in, cell_in, target_in, change_reply, length_reply}

-- the plan after a query; a length changes nothing
abbrev pub after_by : Plan → Query → Action → Plan
after_by p q Close = after p (cell_in q) false
after_by p q Open = after p (cell_in q) true
after_by p q Measure = p

-- the plan after all queries of a list
abbrev pub after_queries : Plan → List Query → Plan
after_queries p [] = p
after_queries p (q ∷ qs) = after_queries (after_by p q (action_in q)) qs

module _ (order : Counts → Counts → Comparison) (w v : ℕ) where
  -- A reply is right: whether the cell changed, or the counts of a cheapest route, or the refusal. The work lists have lengths w and v.
  abbrev pub RightBy : Plan → Query → Action → Reply → Type 0
  RightBy p q Close r = r ≡ change_reply (mark_answer p (cell_in q) false)
  RightBy p q Open r = r ≡ change_reply (mark_answer p (cell_in q) true)
  RightBy p q Measure r = (x : Result Measured Refusal) × LengthTold order legal p (cell_in q) (target_in q) w v (costs x) × (r ≡ length_reply x)

  -- the first n queries have their replies, each right in the plan of its moment
  abbrev pub RightUpTo : Plan → List Query → List Reply → ℕ → Type 0
  RightUpTo p qs rs n = (i : ℕ) → i < n → (q : Query) (r : Reply) → RightBy (after_queries p (take i qs)) (slice_index_or qs i q) (action_in (slice_index_or qs i q)) (slice_index_or rs i r)

  -- so has every query of a batch
  abbrev pub AllRight : Plan → List Query → List Reply → Type 0
  AllRight p qs rs = RightUpTo p qs rs (length qs)

-- What a batch on a new floor leaves among the replies: if it is done, every query has its reply, and what lies past these is as it was; if not, all is.
abbrev pub Done : (Counts → Counts → Comparison) → ℕ → ℕ → List Query → List Reply → List Reply → Bool → Type 0
Done order rows cols qs before after true = AllRight order (8 * (rows * cols)) (8 * (rows * cols)) (closed rows cols) qs after × (drop (length qs) after ≡ drop (length qs) before)
Done order rows cols qs before after false = after ≡ before
