-- What a write to one entry changes, and counting the places that pass a test.
use Rattle.std.proofs.Common.{◌≡◌, ℕ, zero, suc, ◌+◌, ◌<◌, ◌≤◌, Bool, true, false, cond, List, length, get_or, set, sym, refl, ap, ◌∙◌, inl, inr, arith}
use Rattle.std.proofs.lemmas.Bool.{cases_lt, cases_eq, both_ways}
use Rattle.std.proofs.lemmas.List.{get_or-set_same, get_or-set_other, get_or_past}
use Rattle.search.specs.declared.graph.Position.{Position}
use Rattle.search.specs.declared.graph.Position.TheVariants.{Start, Place}
use Rattle.search.specs.declared.entry.State.{State}
use Rattle.search.specs.declared.entry.State.TheVariants.{Unseen, Waiting, Finished}
use Rattle.search.specs.declared.entry.Reached.{Reached}
use Rattle.search.specs.declared.entry.Entry.{Entry}
use Rattle.search.specs.Chain.{Inside}
use Rattle.search.specs.Mark.{Mark, Unmet, Waits, Done, way, marked, mark, blank, waiting_by, marks, slots, is_waiting, is_done, how, standing, Becomes, count, finished, finishes}

pub same_done : (m : Mark) (r b : Reached) → m ≡ Done r → m ≡ Done b → r ≡ b
same_done m r b p q = cc

pub same_waits : (m : Mark) (r b : Reached) → m ≡ Waits r → m ≡ Waits b → r ≡ b
same_waits m r b p q = cc

pub never_both : (m : Mark) (r b : Reached) → m ≡ Waits r → m ≡ Done b → ⊥
never_both m r b p q = let z : ◌≡◌ {A = ℕ} 0 1 = cc in omega arith

pub not_waits : (m : Mark) (r : Reached) → m ≡ Unmet → m ≡ Waits r → ⊥
not_waits m r p q = let z : ◌≡◌ {A = ℕ} 0 1 = cc in omega arith

pub not_done : (m : Mark) (r : Reached) → m ≡ Unmet → m ≡ Done r → ⊥
not_done m r p q = let z : ◌≡◌ {A = ℕ} 0 1 = cc in omega arith

pub waits_is : (m : Mark) → is_waiting m ≡ true → m ≡ Waits (how m)
waits_is Unmet e = absurd (both_ways false refl e)
waits_is (Waits r) e = refl
waits_is (Done r) e = absurd (both_ways false refl e)

pub done_is : (m : Mark) → is_done m ≡ true → (b : Reached) × (m ≡ Done b)
done_is Unmet e = absurd (both_ways false refl e)
done_is (Waits r) e = absurd (both_ways false refl e)
done_is (Done r) e = (r, refl)

pub undone_is : (m : Mark) → ((b : Reached) → m ≡ Done b → ⊥) → is_done m ≡ false
undone_is Unmet h = refl
undone_is (Waits r) h = refl
undone_is (Done r) h = absurd (h r refl)

-- an entry whose place waits or is done says how it was reached
pub how_waits : (t : State) (r : Reached) → is_waiting (marked t r) ≡ true → how (marked t r) ≡ r
how_waits Unseen r e = absurd (both_ways false refl e)
how_waits Waiting r e = refl
how_waits Finished r e = refl

pub back_again : (r : Reached) → mark (waiting_by r) ≡ Waits r
back_again r = ap Waits (by r.from)
  where
    by : (p : Position) → way (waiting_by (record { counts = r.counts; from = p })) ≡ record { counts = r.counts; from = p }
    by Start = refl
    by (Place j) = refl

-- One entry is written.
module _ (es : List Entry) (k : ℕ) (e : Entry) (low : k < length es) where
  pub marks_set : Becomes (marks es) (marks (set es k e)) k (mark e)
  unfolding marks
  marks_set = record { at = ap mark (get_or-set_same es k e blank low); off = λ j ne. ap mark (get_or-set_other es k j e blank ne) }

  pub marks_same : mark e ≡ marks es k → marks (set es k e) ≡ marks es
  marks_same h = λ i j. each j i
    where
      each : (j : ℕ) → marks (set es k e) j ≡ marks es j
      each j = elim (cases_eq j k) [
        | inl same ↦ ap (marks (set es k e)) same ∙ marks_set.at ∙ h ∙ ap (marks es) (sym same)
        | inr apart ↦ marks_set.off j apart
      ]

  pub slot_here : slots (set es k e) k ≡ e.slot
  unfolding slots
  slot_here = ap (λ x. x.slot) (get_or-set_same es k e blank low)

  pub slots_off : (j : ℕ) → (j ≡ k → ⊥) → slots (set es k e) j ≡ slots es j
  unfolding slots
  slots_off j apart = ap (λ x. x.slot) (get_or-set_other es k j e blank apart)

-- what is done is a place of the list, or the start
pub standing_inside : (es : List Entry) (q : Position) (b : Reached) → standing (marks es) q ≡ Done b → Inside (length es) q
unfolding marks
standing_inside es Start b e = tt
standing_inside es (Place k) b e = elim (cases_lt k (length es)) [
  | inl l ↦ l
  | inr past ↦ absurd (not_done Unmet b refl (sym (ap mark (get_or_past es k blank past)) ∙ e))
]

pub count_le : (f : ℕ → Bool) (n : ℕ) → count f n ≤ n
unfolding count
count_le f zero = omega arith
count_le f (suc n) = elim (f n) as (λ b. cond b 1 0 + count f n ≤ suc n) [ true ↦ omega (arith, count_le f n) | false ↦ omega (arith, count_le f n) ]

pub count_same : (f g : ℕ → Bool) (n : ℕ) → ((k : ℕ) → k < n → f k ≡ g k) → count f n ≡ count g n
unfolding count
count_same f g zero h = refl
count_same f g (suc n) h = (λ i. cond (h n (omega arith) i) 1 0 + count_same f g n (λ k l. h k (omega arith)) i)

pub count_none : (f : ℕ → Bool) (n : ℕ) → ((k : ℕ) → f k ≡ false) → 0 ≡ count f n
unfolding count
count_none f zero h = refl
count_none f (suc n) h =
    let a = count_none f n h in
    let b : cond {A = ℕ} (f n) 1 0 ≡ 0 = ap (λ x. cond {A = ℕ} x 1 0) (h n) in
    omega arith

pub count_up : (f g : ℕ → Bool) (n k : ℕ) → k < n → f k ≡ false → g k ≡ true → ((j : ℕ) → (j ≡ k → ⊥) → g j ≡ f j) → count g n ≡ count f n + 1
unfolding count
count_up f g zero k l p q h = absurd (let y : ⊥ = omega arith in y)
count_up f g (suc n) k l p q h = elim (cases_eq n k) [
  | inl same ↦
      let a : cond {A = ℕ} (g n) 1 0 ≡ 1 = ap (λ b. cond {A = ℕ} b 1 0) (ap g same ∙ q) in
      let b : cond {A = ℕ} (f n) 1 0 ≡ 0 = ap (λ b. cond {A = ℕ} b 1 0) (ap f same ∙ p) in
      let c : count g n ≡ count f n = count_same g f n (λ j m. h j (omega arith)) in
      omega arith
  | inr apart ↦
      let a : cond {A = ℕ} (g n) 1 0 ≡ cond {A = ℕ} (f n) 1 0 = ap (λ b. cond {A = ℕ} b 1 0) (h n apart) in
      let c : count g n ≡ count f n + 1 = count_up f g n k (omega arith) p q h in
      omega arith
]

pub count_lt : (f : ℕ → Bool) (n k : ℕ) → k < n → f k ≡ false → count f n < n
unfolding count
count_lt f zero k l p = absurd (let y : ⊥ = omega arith in y)
count_lt f (suc n) k l p = elim (cases_eq n k) [
  | inl same ↦
      let b : cond {A = ℕ} (f n) 1 0 ≡ 0 = ap (λ b. cond {A = ℕ} b 1 0) (ap f same ∙ p) in
      omega (arith, count_le f n)
  | inr apart ↦
      let c : count f n < n = count_lt f n k (omega arith) p in
      elim (f n) as (λ b. cond b 1 0 + count f n < suc n) [ true ↦ omega arith | false ↦ omega arith ]
]

pub finishes_le : (es : List Entry) → finishes es ≤ length es
unfolding finishes
finishes_le es = count_le (finished es) (length es)

pub finishes_same : (es es' : List Entry) → finished es' ≡ finished es → length es' ≡ length es → finishes es' ≡ finishes es
unfolding finishes
finishes_same es es' e l = λ i. count (e i) (l i)

pub finishes_up : (es es' : List Entry) (p : ℕ) (r : Reached) → Becomes (marks es) (marks es') p (Done r) → is_waiting (marks es p) ≡ true → p < length es → length es' ≡ length es → finishes es' ≡ finishes es + 1
unfolding finishes finished
finishes_up es es' p r new w l same =
    ap (count (λ k. is_done (marks es' k))) same
    ∙ count_up (λ k. is_done (marks es k)) (λ k. is_done (marks es' k)) (length es) p l (ap is_done (waits_is (marks es p) w)) (ap is_done new.at) (λ j ne. ap is_done (new.off j ne))

-- one more is finished than there were before the edges were followed
pub finishes_next : (es₀ es es' : List Entry) (p : ℕ) (r : Reached) → finished es ≡ finished es₀ → Becomes (marks es) (marks es') p (Done r) → is_waiting (marks es p) ≡ true → p < length es → length es ≡ length es₀ → length es' ≡ length es → finishes es' ≡ finishes es₀ + 1
finishes_next es₀ es es' p r same new w l a b = finishes_up es es' p r new w l b ∙ ap (λ m. m + 1) (finishes_same es₀ es same a)

pub finishes_none : (es : List Entry) → ((k : ℕ) → marks es k ≡ Unmet) → 0 ≡ finishes es
unfolding finishes finished
finishes_none es clean = count_none _ (length es) (λ k. ap is_done (clean k))

done_marked : (t : State) (w r : Reached) → marked t w ≡ Done r → w ≡ r
done_marked Unseen w r e = absurd (not_done Unmet r refl e)
done_marked Waiting w r e = absurd (never_both (Waits w) w r refl e)
done_marked Finished w r e = same_done (Done w) w r refl e

pub done_way : (es : List Entry) (k : ℕ) (r : Reached) → marks es k ≡ Done r → way (get_or es k blank) ≡ r
unfolding marks
done_way es k r e = done_marked (get_or es k blank).state (way (get_or es k blank)) r e
