-- Two right answers to one call in one state are alike: refusals are decided by the questions, and two cheapest routes cost the same.
use Rattle.std.proofs.Common.{◌≡◌, ℕ, suc, ◌+◌, ◌≤◌, Bool, ◌⊎◌, List, [], ◌∷◌, length, Some, None, Ok, Err, Option, Result, sym, refl, ap, ◌∙◌, subst, inl, inr, arith}
use Rattle.std.specs.Option.{option_map}
use Rattle.std.specs.Prelude.{option_to_list}
use Rattle.std.specs.Result.{result_ok, result_err}
use Rattle.floor.specs.declared.Cell.{Cell}
use Rattle.floor.specs.declared.Counts.{Counts}
use Rattle.floor.specs.Plans.{Plan, Sized}
use Rattle.floor.specs.Routes.{Laying, Fair}
use Rattle.rate.specs.declared.Comparison.{Comparison}
use Rattle.rate.specs.declared.Comparison.TheVariants.{Same}
use Rattle.rate.specs.Laws.{at_least, Lawful}
use Rattle.cheapest.specs.Cheapest.{Leg, legs, total, Tour, CheapestLegs}
use Rattle.cheapest.proofs.Rivals.{rivals, both_at_least}
use Rattle.lengths.specs.declared.answers.Refusal.{Refusal}
use Rattle.planner.specs.declared.answers.LoopRefusal.{LoopRefusal}
use Rattle.planner.specs.declared.answers.LoopRefusal.TheVariants as loop
use Rattle.lengths.specs.Questions.{number, first_no, length_questions, route_questions}
use Rattle.lengths.specs.Answers.{CostTold}
use Rattle.planner.specs.Loops.{loop_number, loop_leg, Looped, LoopTold}
use Rattle.history.specs.Calls.{Asked, to_open, to_close, a_length, a_route, a_loop, Told, changed, cost, drawn, toured, Right, SameCosts, Alike}
use Rattle.planner.proofs.Wholes.{legs_tour, all_legs, loop_by, few_legs}

-- the same refusal, or two lengths that cost the same
record SameCost {E : Type 0} (order : Counts → Counts → Comparison) (r q : Result Counts E) : Type 0 where
  errors : result_err r ≡ result_err q
  lengths : SameCosts order (option_to_list (result_ok r)) (option_to_list (result_ok q))

module _ (order : Counts → Counts → Comparison) (law : Lawful order) (may : Laying) (fair : Fair may) (p : Plan) (z : Sized p) where
  same_error : {E : Type 0} (e f : E) → e ≡ f → SameCost {E = E} order (Err e) (Err f)
  same_error e f h = record { errors = ap Some h; lengths = (refl, tt) }

  same_length : {E : Type 0} (n m : Counts) → order n m ≡ Same → SameCost {E = E} order (Ok n) (Ok m)
  same_length n m h = record { errors = refl; lengths = (refl, (h, tt)) }

  same_cost : (s t : Cell) (o : Option Refusal) (r q : Result Counts Refusal) → CostTold order may p s t o r → CostTold order may p s t o q → SameCost order r q
  same_cost s t (Some e) r q a b = subst (λ x. SameCost order x q) (sym a) (subst (SameCost order (Err e)) (sym b) (same_error e e refl))
  same_cost s t None (Ok n) (Ok m) a b = same_length n m ((rivals order law may fair).equal p s t n m a b)
  same_cost s t None (Ok n) (Err f) a b = absurd (b.1 n a.route)
  same_cost s t None (Err e) (Ok m) a b = absurd (a.1 m b.route)
  same_cost s t None (Err e) (Err f) a b = same_error e f (a.0 ∙ sym b.0)

  -- what two tellings of one loop share, leg by leg: the legs cost the same, and both go on to the end or are refused alike
  module _ (w v : ℕ) where
    leg_cost : (l : Leg) (r q : Result Counts Refusal) →
        CostTold order may p l.from l.to (first_no (length_questions p l.from l.to w v)) r →
        CostTold order may p l.from l.to (first_no (length_questions p l.from l.to w v)) q → SameCost order r q
    leg_cost l r q = same_cost l.from l.to (first_no (length_questions p l.from l.to w v)) r q

    -- one was answered, and the other refused: that cannot be of one leg
    unlike : {X E : Type 0} (n : Counts) (e : E) → SameCost {E = E} order (Ok n) (Err e) → X
    unlike n e h = absurd (let x = h.errors in let z : ◌≡◌ {A = ℕ} 0 1 = cc in omega arith)

    unlike_too : {X E : Type 0} (n : Counts) (e : E) → SameCost {E = E} order (Err e) (Ok n) → X
    unlike_too n e h = absurd (let x = h.errors in let z : ◌≡◌ {A = ℕ} 0 1 = cc in omega arith)

    same_legs : (some all : List Counts) (k : ℕ) (ls : List Leg) (ns ms : List Counts) (r q : Result Counts LoopRefusal) →
        Looped order may p w v some k ls ns r → Looped order may p w v all k ls ms q →
        SameCosts order ns ms × (((r ≡ Ok (total some)) × (q ≡ Ok (total all))) ⊎ ((e : LoopRefusal) × (r ≡ Err e) × (q ≡ Err e)))
    same_legs some all k [] [] [] r q a b = ((refl, tt), inl (a, b))
    same_legs some all k [] [] (m ∷ ms) r q a b = absurd b
    same_legs some all k [] (n ∷ ns) ms r q a b = absurd a
    same_legs some all k (l ∷ ls) [] [] r q a b =
        let e : a.0 ≡ b.0 = let h = (leg_cost l (Err a.0) (Err b.0) a.2 b.2).errors in (cc) in
        ((refl, tt), inr (loop.Leg k a.0, a.1, b.1 ∙ ap (λ f. Err (loop.Leg k f)) (sym e)))
    same_legs some all k (l ∷ ls) [] (m ∷ ms) r q a b = unlike_too m a.0 (leg_cost l (Err a.0) (Ok m) a.2 b.0)
    same_legs some all k (l ∷ ls) (n ∷ ns) [] r q a b = unlike n b.0 (leg_cost l (Ok n) (Err b.0) a.0 b.2)
    same_legs some all k (l ∷ ls) (n ∷ ns) (m ∷ ms) r q a b =
        let h = same_legs some all (k + 1) ls ns ms r q a.1 b.1 in
        ((ap suc h.0.0, ((leg_cost l (Ok n) (Ok m) a.0 b.0).lengths.1.0, h.0.1)), h.1)

    -- a loop's legs are a route for it
    tour : (ls : List Leg) (ns : List Counts) → CheapestLegs order may p ls ns → Tour may p ls ns
    tour = legs_tour order may p p (λ x y n r. r)

    same_total : (ls : List Leg) → length ls ≤ 64 → (ns ms : List Counts) → CheapestLegs order may p ls ns → CheapestLegs order may p ls ms → order (total ns) (total ms) ≡ Same
    same_total ls few ns ms a b =
        both_at_least (order (total ns) (total ms)) ((rivals order law may fair).whole p z ls few ms b ns (tour ls ns a))
        (ap at_least (sym (law.turns (total ns) (total ms))) ∙ (rivals order law may fair).whole p z ls few ns a ms (tour ls ms b))

    same_loop : (cells : List Cell) (l : ℕ) (ns ms : List Counts) (r q : Result Counts LoopRefusal) →
        LoopTold order may p cells w v l ns r → LoopTold order may p cells w v l ms q → SameCost order r q × SameCosts order ns ms
    same_loop cells l ns ms r q a b = elim (loop_by order may p w v cells l ns r a) [
      | inl x ↦ elim (loop_by order may p w v cells l ms q b) [
        | inl y ↦
            let e : x.0 ≡ y.0 = let f = x.1 in let g = y.1 in (cc) in (
              subst (λ k. SameCost order k q) (sym x.2) (subst (SameCost order (Err x.0)) (sym y.2) (same_error x.0 y.0 e)),
              subst (λ k. SameCosts order k ms) (sym x.3) (subst (SameCosts order []) (sym y.3) (refl, tt)),
            )
        | inr y ↦ absurd (let f = x.1 in let g = y.0 in let c : ◌≡◌ {A = ℕ} 0 1 = cc in omega arith)
      ]
      | inr x ↦ elim (loop_by order may p w v cells l ms q b) [
        | inl y ↦ absurd (let f = x.0 in let g = y.1 in let c : ◌≡◌ {A = ℕ} 0 1 = cc in omega arith)
        | inr y ↦
            let h = same_legs ns ms 1 (legs cells) ns ms r q x.1 y.1 in (
              elim h.1 [
                | inl k ↦
                    let c = all_legs order may p w v ns 1 (legs cells) ns (total ns) (subst (λ u. Looped order may p w v ns 1 (legs cells) ns u) k.0 x.1) in
                    let d = all_legs order may p w v ms 1 (legs cells) ms (total ms) (subst (λ u. Looped order may p w v ms 1 (legs cells) ms u) k.1 y.1) in
                    subst (λ u. SameCost order u q) (sym k.0) (subst (SameCost order (Ok (total ns))) (sym k.1)
                    (same_length (total ns) (total ms) (same_total (legs cells) (few_legs cells l x.0) ns ms c.0 d.0)))
                | inr k ↦ subst (λ u. SameCost order u q) (sym k.1) (subst (SameCost order (Err k.0)) (sym k.2) (same_error k.0 k.0 refl))
              ],
              h.0,
            )
      ]
    ]

  -- answers of one kind, by what they tell
  alike_cost : (r q : Result Counts Refusal) → SameCost order r q → Alike order (cost r) (cost q)
  alike_cost r q h = record { refusals = ap (option_map (λ e. (number e, 0))) h.errors; changes = refl; lengths = h.lengths; legs = (refl, tt) }

  alike_drawn : (r q : Result Counts Refusal) (cs ds : List Cell) → SameCost order r q → Alike order (drawn r cs) (drawn q ds)
  alike_drawn r q cs ds h = record { refusals = ap (option_map (λ e. (number e, 0))) h.errors; changes = refl; lengths = h.lengths; legs = (refl, tt) }

  alike_toured : (r q : Result Counts LoopRefusal) (ns ms : List Counts) → SameCost order r q × SameCosts order ns ms → Alike order (toured r ns) (toured q ms)
  alike_toured r q ns ms h = record { refusals = ap (option_map (λ e. (loop_number e, loop_leg e))) h.0.errors; changes = refl; lengths = h.0.lengths; legs = h.1 }

  alike_as : (x y x' y' : Told) → x ≡ x' → y ≡ y' → Alike order x' y' → Alike order x y
  alike_as x y x' y' e f h = subst (λ u. Alike order u y) (sym e) (subst (Alike order x') (sym f) h)

  alike_changed : (r : Result Bool Refusal) → Alike order (changed r) (changed r)
  alike_changed r = record { refusals = refl; changes = refl; lengths = (refl, tt); legs = (refl, tt) }

  pub right_alike : (a : Asked) (x y : Told) → Right order may (record { plan = p }) a x → Right order may (record { plan = p }) a y → Alike order x y
  right_alike (to_open c) x y h k = alike_as x y _ _ h k (alike_changed _)
  right_alike (to_close c) x y h k = alike_as x y _ _ h k (alike_changed _)
  right_alike (a_length s t w v) x y h k = alike_as x y _ _ h.1 k.1 (alike_cost h.0 k.0 (same_cost s t (first_no (length_questions p s t w v)) h.0 k.0 h.2 k.2))
  right_alike (a_route s t w v c) x y h k =
      alike_as x y _ _ h.2 k.2 (alike_drawn h.0 k.0 h.1 k.1 (same_cost s t (first_no (route_questions p s t w v c)) h.0 k.0 h.3.0 k.3.0))
  right_alike (a_loop cells w v l) x y h k = alike_as x y _ _ h.2 k.2 (alike_toured h.0 k.0 h.1 k.1 (same_loop w v cells l h.1 k.1 h.0 k.0 h.3 k.3))
