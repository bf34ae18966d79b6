-- More open cells never cost more: the questions that were answered yes still are, and every route is still one.
use Rattle.std.proofs.Common.{◌≡◌, ℕ, ◌+◌, ◌*◌, true, cond, ◌&&◌, ltb, leb, List, [], ◌∷◌, Some, None, Ok, Err, Option, Result, sym, refl, ap, ◌∙◌, subst, inl, inr, arith}
use Rattle.std.specs.Result.{result_ok}
use Rattle.floor.specs.declared.Cell.{Cell}
use Rattle.floor.specs.declared.Counts.{Counts}
use Rattle.floor.specs.Plane.{point}
use Rattle.floor.specs.Plans.{Plan, Sized, inside, opens}
use Rattle.floor.specs.Routes.{Laying, Grows, Fair}
use Rattle.floor.proofs.Walks.{grown}
use Rattle.rate.specs.declared.Comparison.{Comparison}
use Rattle.rate.specs.Laws.{AtLeast, Lawful}
use Rattle.cheapest.specs.Cheapest.{Leg, legs, total, Tour, CheapestLegs}
use Rattle.cheapest.proofs.Rivals.{rivals}
use Rattle.lengths.specs.declared.answers.Refusal.{Refusal}
use Rattle.planner.specs.declared.answers.LoopRefusal.{LoopRefusal}
use Rattle.lengths.specs.Questions.{Question, first_no, length_questions, route_questions}
use Rattle.lengths.specs.Answers.{CostTold}
use Rattle.planner.specs.Loops.{Looped, LoopTold}
use Rattle.history.specs.Calls.{Asked, to_open, to_close, a_length, a_route, a_loop, Told, Right, length_in}
use Rattle.lengths.proofs.Asked.{yes_first}
use Rattle.planner.proofs.Wholes.{legs_tour, all_legs, loop_by, few_legs}

-- questions that are answered yes in one list, in the same order, are in the other
abbrev Yes : {A : Type 0} → List (Question A) → List (Question A) → Type 0
Yes [] [] = Unit {0}
Yes [] (r ∷ rs) = ⊥
Yes (q ∷ qs) [] = ⊥
Yes (q ∷ qs) (r ∷ rs) = (q.yes_to ≡ true → r.yes_to ≡ true) × Yes qs rs

all_yes : {A : Type 0} (qs rs : List (Question A)) → Yes qs rs → first_no qs ≡ None → first_no rs ≡ None
all_yes [] [] y e = refl
all_yes [] (r ∷ rs) y e = absurd y
all_yes (q ∷ qs) [] y e = absurd y
all_yes (q ∷ qs) (r ∷ rs) y e =
    let f = yes_first q qs e in
    ap (λ b. cond b (first_no rs) (Some r.else)) (y.0 f.0) ∙ all_yes qs rs y.1 f.1

module _ (order : Counts → Counts → Comparison) (law : Lawful order) (may : Laying) (fair : Fair may)
    (p q : Plan) (zp : Sized p) (zq : Sized q) (rows : p.rows ≡ q.rows) (cols : p.cols ≡ q.cols) (grow : Grows (opens p) (opens q)) where
  inside_too : (c : Cell) → inside p c ≡ true → inside q c ≡ true
  inside_too c h = sym (λ i. ltb c.row (rows i) && ltb c.col (cols i)) ∙ h

  length_yes : (s t : Cell) (w v : ℕ) → Yes (length_questions p s t w v) (length_questions q s t w v)
  length_yes s t w v =
      (inside_too s, (inside_too t, (grow (point s), (grow (point t), ((λ h. sym (λ i. leb (8 * (rows i * cols i)) w && leb (8 * (rows i * cols i)) v) ∙ h), tt)))))

  route_yes : (s t : Cell) (w v c : ℕ) → Yes (route_questions p s t w v c) (route_questions q s t w v c)
  route_yes s t w v c =
      (inside_too s, (inside_too t, (grow (point s), (grow (point t), ((λ h. sym (λ i. leb (8 * (rows i * cols i)) w && leb (8 * (rows i * cols i)) v) ∙ h), ((λ h. sym (λ i. leb (rows i * cols i) c) ∙ h), tt))))))

  -- a length in p, then a length in q that is no dearer
  abbrev Kept : Counts → Result Counts Refusal → Type 0
  Kept n r = (m : Counts) × (r ≡ Ok m) × AtLeast order n m

  cost_kept : (s t : Cell) (o u : Option Refusal) → (o ≡ None → u ≡ None) → (n : Counts) (r : Result Counts Refusal) → CostTold order may p s t o (Ok n) → CostTold order may q s t u r → Kept n r
  cost_kept s t (Some e) u y n r a b = absurd (let z : ◌≡◌ {A = ℕ} 0 1 = cc in omega arith)
  cost_kept s t None (Some f) y n r a b = absurd (let h = y refl in let z : ◌≡◌ {A = ℕ} 0 1 = cc in omega arith)
  cost_kept s t None None y n (Ok m) a b = (m, refl, (rivals order law may fair).opening p q grow s t n m a b)
  cost_kept s t None None y n (Err f) a b = absurd (b.1 n (grown may fair (opens p) (opens q) grow a.route))

  module _ (w v : ℕ) where
    leg_kept : (l : Leg) (n : Counts) (r : Result Counts Refusal) →
        CostTold order may p l.from l.to (first_no (length_questions p l.from l.to w v)) (Ok n) →
        CostTold order may q l.from l.to (first_no (length_questions q l.from l.to w v)) r → Kept n r
    leg_kept l n r = cost_kept l.from l.to _ _ (all_yes (length_questions p l.from l.to w v) (length_questions q l.from l.to w v) (length_yes l.from l.to w v)) n r

    -- every leg of the loop is measured in q too
    legs_kept : (some all : List Counts) (k : ℕ) (ls : List Leg) (ns ms : List Counts) (n : Counts) (r : Result Counts LoopRefusal) →
        Looped order may p w v some k ls ns (Ok n) → Looped order may q w v all k ls ms r → r ≡ Ok (total all)
    legs_kept some all k [] [] [] n r a b = b
    legs_kept some all k [] [] (m ∷ ms) n r a b = absurd b
    legs_kept some all k [] (m ∷ ns) ms n r a b = absurd a
    legs_kept some all k (l ∷ ls) [] ms n r a b = absurd (let e = a.1 in let z : ◌≡◌ {A = ℕ} 0 1 = cc in omega arith)
    legs_kept some all k (l ∷ ls) (m ∷ ns) [] n r a b =
        absurd (let h = leg_kept l m (Err b.0) a.0 b.2 in let e = h.1 in let z : ◌≡◌ {A = ℕ} 0 1 = cc in omega arith)
    legs_kept some all k (l ∷ ls) (m ∷ ns) (m' ∷ ms) n r a b = legs_kept some all (k + 1) ls ns ms n r a.1 b.1

    grown_tour : (ls : List Leg) (ns : List Counts) → CheapestLegs order may p ls ns → Tour may q ls ns
    grown_tour = legs_tour order may p q (λ x y n r. grown may fair (opens p) (opens q) grow r)

    loop_kept : (cells : List Cell) (l : ℕ) (ns ms : List Counts) (n : Counts) (r : Result Counts LoopRefusal) →
        LoopTold order may p cells w v l ns (Ok n) → LoopTold order may q cells w v l ms r → (m : Counts) × (r ≡ Ok m) × AtLeast order n m
    loop_kept cells l ns ms n r a b = elim (loop_by order may p w v cells l ns (Ok n) a) [
      | inl x ↦ absurd (let f = x.2 in let z : ◌≡◌ {A = ℕ} 0 1 = cc in omega arith)
      | inr x ↦ elim (loop_by order may q w v cells l ms r b) [
        | inl y ↦ absurd (let f = x.0 in let g = y.1 in let z : ◌≡◌ {A = ℕ} 0 1 = cc in omega arith)
        | inr y ↦
            let ok : r ≡ Ok (total ms) = legs_kept ns ms 1 (legs cells) ns ms n r x.1 y.1 in
            let c = all_legs order may p w v ns 1 (legs cells) ns n x.1 in
            let d = all_legs order may q w v ms 1 (legs cells) ms (total ms) (subst (λ u. Looped order may q w v ms 1 (legs cells) ms u) ok y.1) in
            (total ms, ok, subst (λ k. AtLeast order k (total ms)) (sym c.1) ((rivals order law may fair).whole q zq (legs cells) (few_legs cells l x.0) ms d.0 ns (grown_tour (legs cells) ns c.0)))
      ]
    ]

  -- a length in x, then one in y that is no dearer
  abbrev KeptIn : Told → Told → Type 0
  KeptIn x y = (n : Counts) → length_in x ≡ Some n → (m : Counts) × (length_in y ≡ Some m) × AtLeast order n m

  got : {E : Type 0} (r : Result Counts E) (n : Counts) → result_ok r ≡ Some n → r ≡ Ok n
  got (Ok m) n e = cc
  got (Err f) n e = absurd (let z : ◌≡◌ {A = ℕ} 0 1 = cc in omega arith)

  no_length : {X : Type 0} (n : Counts) → ◌≡◌ {A = Option Counts} None (Some n) → X
  no_length n e = absurd (let z : ◌≡◌ {A = ℕ} 0 1 = cc in omega arith)

  -- two answers that tell their lengths by results
  by_results : {E : Type 0} (x y : Told) (r u : Result Counts E) → length_in x ≡ result_ok r → length_in y ≡ result_ok u →
      ((n : Counts) → r ≡ Ok n → (m : Counts) × (u ≡ Ok m) × AtLeast order n m) → KeptIn x y
  by_results x y r u e f h n k = let a = h n (got r n (sym e ∙ k)) in (a.0, f ∙ ap result_ok a.1, a.2)

  pub right_kept : (a : Asked) (x y : Told) → Right order may (record { plan = p }) a x → Right order may (record { plan = q }) a y → KeptIn x y
  right_kept (to_open c) x y h k = λ n e. no_length n (sym (ap length_in h) ∙ e)
  right_kept (to_close c) x y h k = λ n e. no_length n (sym (ap length_in h) ∙ e)
  right_kept (a_length s t w v) x y h k = by_results x y h.0 k.0 (ap length_in h.1) (ap length_in k.1) (λ n e.
      cost_kept s t _ _ (all_yes (length_questions p s t w v) (length_questions q s t w v) (length_yes s t w v)) n k.0
      (subst (CostTold order may p s t (first_no (length_questions p s t w v))) e h.2) k.2)
  right_kept (a_route s t w v c) x y h k = by_results x y h.0 k.0 (ap length_in h.2) (ap length_in k.2) (λ n e.
      cost_kept s t _ _ (all_yes (route_questions p s t w v c) (route_questions q s t w v c) (route_yes s t w v c)) n k.0
      (subst (CostTold order may p s t (first_no (route_questions p s t w v c))) e h.3.0) k.3.0)
  right_kept (a_loop cells w v l) x y h k = by_results x y h.0 k.0 (ap length_in h.2) (ap length_in k.2) (λ n e.
      loop_kept w v cells l h.1 k.1 n k.0 (subst (LoopTold order may p cells w v l h.1) e h.3) k.3)
