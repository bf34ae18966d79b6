-- How many legs a loop measured can be read off its answer.
use Rattle.std.proofs.Common.{◌≡◌, ℕ, ◌+◌, ◌-◌, ◌≤◌, Bool, true, false, cond, ◌&&◌, leb, List, [], ◌∷◌, length, take, drop, Some, None, Ok, Err, Result, sym, refl, ap, ◌∙◌, inl, inr, arith}
use Rattle.std.proofs.lemmas.List.{take_at, drop_at, length-append, length-drop}
use Rattle.floor.specs.declared.Cell.{Cell}
use Rattle.floor.specs.declared.Counts.{Counts}
use Rattle.floor.specs.Plans.{Plan}
use Rattle.floor.specs.Routes.{Laying}
use Rattle.rate.specs.declared.Comparison.{Comparison}
use Rattle.cheapest.specs.Cheapest.{Leg, legs}
use Rattle.lengths.specs.Questions.{first_no}
use Rattle.planner.specs.declared.answers.LoopRefusal.{LoopRefusal}
use Rattle.planner.specs.declared.answers.LoopRefusal.TheVariants as loop
use Rattle.planner.specs.Loops.{loop_questions, Looped, LoopTold}
use Rattle.planner.specs.Touring.{Toured}
use Rattle.history.specs.Records.{measured_legs}
use Rattle.planner.proofs.Legs.{legs_length}
use Rattle.planner.proofs.Wholes.{loop_by}

-- the number of the leg after those measured, where the legs from number k on are so many
abbrev after_those : ℕ → ℕ → Result Counts LoopRefusal → ℕ
after_those k n (Ok m) = k + n
after_those k n (Err (loop.Leg j e)) = j
after_those k n (Err loop.CellCount) = 0
after_those k n (Err loop.ShortLegs) = 0

-- a refusal before the legs is one of two
before_legs : (cells : List Cell) (l : ℕ) (e : LoopRefusal) → first_no (loop_questions cells l) ≡ Some e → (n : ℕ) → measured_legs (Err e) n ≡ 0
before_legs cells l e q n = by (leb 2 (length cells) && leb (length cells) 64) (leb (length cells) l) q
  where
    by : (a b : Bool) → cond a (cond b None (Some loop.ShortLegs)) (Some loop.CellCount) ≡ Some e → measured_legs (Err e) n ≡ 0
    by true true h = absurd (let z : ◌≡◌ {A = ℕ} 0 1 = cc in omega arith)
    by true false h = let z : loop.ShortLegs ≡ e = cc in sym (ap (λ f. measured_legs (Err f) n) z)
    by false b h = let z : loop.CellCount ≡ e = cc in sym (ap (λ f. measured_legs (Err f) n) z)

module _ (order : Counts → Counts → Comparison) (may : Laying) (p : Plan) (w v : ℕ) where
  count_on : (written : List Counts) (k : ℕ) (ls : List Leg) (ns : List Counts) (r : Result Counts LoopRefusal) → Looped order may p w v written k ls ns r → length ns + k ≡ after_those k (length ls) r
  count_on written k [] [] r h = (let e : 0 + k ≡ k + 0 = omega arith in e) ∙ sym (ap (after_those k 0) h)
  count_on written k [] (n ∷ ns) r h = absurd h
  count_on written k (l ∷ ls) [] r h = (let e : 0 + k ≡ k = omega arith in e) ∙ sym (ap (after_those k (length (l ∷ ls))) h.1)
  count_on written k (l ∷ ls) (n ∷ ns) r h = (let e : length (n ∷ ns) + k ≡ length ns + (k + 1) = omega arith in e) ∙ count_on written (k + 1) ls ns r h.1 ∙ more r
    where
      more : (q : Result Counts LoopRefusal) → after_those (k + 1) (length ls) q ≡ after_those k (length (l ∷ ls)) q
      more (Ok m) = omega arith
      more (Err (loop.Leg j e)) = refl
      more (Err loop.CellCount) = refl
      more (Err loop.ShortLegs) = refl

  counted : (n : ℕ) (m : ℕ) (r : Result Counts LoopRefusal) → n + 1 ≡ after_those 1 m r → n ≡ measured_legs r m
  counted n m (Ok x) h = omega arith
  counted n m (Err (loop.Leg j e)) h = omega arith
  counted n m (Err loop.CellCount) h = absurd (omega arith)
  counted n m (Err loop.ShortLegs) h = absurd (omega arith)

  pub measured_count : (cells : List Cell) (l : ℕ) (ns : List Counts) (r : Result Counts LoopRefusal) → LoopTold order may p cells w v l ns r → length ns ≡ measured_legs r (length cells)
  measured_count cells l ns r h = elim (loop_by order may p w v cells l ns r h) [
    | inl x ↦ ap length x.3 ∙ sym (ap (λ q. measured_legs q (length cells)) x.2 ∙ before_legs cells l x.0 x.1 (length cells))
    | inr x ↦ counted (length ns) (length cells) r (count_on ns 1 (legs cells) ns r x.1 ∙ ap (λ m. after_those 1 m r) (legs_length cells))
  ]

  -- the front of the leg list, as long as the answer says, is what was measured
  pub measured_front : (cells : List Cell) (before after : List Counts) (r : Result Counts LoopRefusal) (t : Toured order may p cells w v before after r) → take (measured_legs r (length cells)) after ≡ t.measured
  measured_front cells before after r t =
      ap (take (measured_legs r (length cells))) t.written ∙
      take_at t.measured (drop (length t.measured) before) (measured_legs r (length cells)) (measured_count cells (length before) t.measured r t.told)

  -- past it the leg list is as it was, and it is no longer than that
  pub measured_past : (cells : List Cell) (before after : List Counts) (r : Result Counts LoopRefusal) (t : Toured order may p cells w v before after r) →
      drop (measured_legs r (length cells)) after ≡ drop (measured_legs r (length cells)) before
  measured_past cells before after r t =
      let n = measured_count cells (length before) t.measured r t.told in
      ap (drop (measured_legs r (length cells))) t.written ∙ drop_at t.measured (drop (length t.measured) before) (measured_legs r (length cells)) n ∙ ap (λ k. drop k before) n

  pub measured_few : (cells : List Cell) (before after : List Counts) (r : Result Counts LoopRefusal) → Toured order may p cells w v before after r → length after ≡ length before → measured_legs r (length cells) ≤ length before
  measured_few cells before after r t same =
      let n = measured_count cells (length before) t.measured r t.told in
      let long : length t.measured + (length before - length t.measured) ≡ length before =
      sym (length-append t.measured (drop (length t.measured) before) ∙ ap (λ k. length t.measured + k) (length-drop (length t.measured) before)) ∙ sym (ap length t.written) ∙ same in
      omega arith
