-- A run, call by call: one call more, answered in the state so far.
use Rattle.std.proofs.Common.{◌≡◌, ℕ, zero, suc, ◌<◌, List, [], ◌∷◌, ◌++◌, length, get_or, take, refl, ap, arith}
use Rattle.floor.specs.declared.Counts.{Counts}
use Rattle.floor.specs.Plans.{legal}
use Rattle.rate.specs.declared.Comparison.{Comparison}
use Rattle.history.specs.Calls.{Asked, Told, State, next, after_all, Right}
use Rattle.history.specs.Promise.{AnsweredInTurn}

pub after_more : (s : State) (xs ys : List Asked) → after_all s (xs ++ ys) ≡ after_all (after_all s xs) ys
after_more s [] ys = refl
after_more s (x ∷ xs) ys = after_more (next s x) xs ys

module _ (order : Counts → Counts → Comparison) where
  pub answered_more : (s : State) (xs : List Asked) (us : List Told) (a : Asked) (u : Told) → AnsweredInTurn order s xs us → Right order legal (after_all s xs) a u → AnsweredInTurn order s (xs ++ a ∷ []) (us ++ u ∷ [])
  answered_more s [] [] a u h r = (r, tt)
  answered_more s [] (v ∷ us) a u h r = absurd h
  answered_more s (x ∷ xs) [] a u h r = absurd h
  answered_more s (x ∷ xs) (v ∷ us) a u h r = (h.0, answered_more (next s x) xs us a u h.1 r)

  -- every answer, by its place
  pub each_answer : (s : State) (xs : List Asked) (us : List Told) → AnsweredInTurn order s xs us → (i : ℕ) (a : Asked) (u : Told) → i < length xs → Right order legal (after_all s (take i xs)) (get_or xs i a) (get_or us i u)
  each_answer s [] us h i a u l = absurd (omega arith)
  each_answer s (x ∷ xs) [] h i a u l = absurd h
  each_answer s (x ∷ xs) (v ∷ us) h zero a u l = h.0
  each_answer s (x ∷ xs) (v ∷ us) h (suc i) a u l = each_answer (next s x) xs us h.1 i a u (omega arith)

  pub as_many : (s : State) (xs : List Asked) (us : List Told) → AnsweredInTurn order s xs us → length us ≡ length xs
  as_many s [] [] h = refl
  as_many s [] (v ∷ us) h = absurd h
  as_many s (x ∷ xs) [] h = absurd h
  as_many s (x ∷ xs) (v ∷ us) h = ap suc (as_many (next s x) xs us h.1)
