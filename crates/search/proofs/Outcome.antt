-- One turn of the search, and what its answers say. That no chain past the most steps is followed costs nothing: what is no dearer than
-- a short chain is within them.
use Rattle.std.proofs.Common.{◌≡◌, ℕ, ◌*◌, ◌<◌, ◌≤◌, Bool, true, false, ◌⊎◌, List, length, get_or, Option, sym, ap, ◌∙◌, subst, inl, inr, arith}
use Rattle.std.proofs.lemmas.Bool.{cases_eq, cases_lt, both_ways}
use Rattle.floor.specs.declared.Counts.{Counts}
use Rattle.floor.specs.Tally.{counts, steps, blocks}
use Rattle.rate.specs.declared.Comparison.{Comparison}
use Rattle.rate.specs.Laws.{limit, at_least, capped, Within, Lawful}
use Rattle.rate.proofs.Derived.{facts}
use Rattle.search.specs.declared.graph.Position.{Position}
use Rattle.search.specs.declared.graph.Position.TheVariants.{Place}
use Rattle.search.specs.declared.graph.Edge.{Edge}
use Rattle.search.specs.declared.entry.Reached.{Reached}
use Rattle.search.specs.Chain.{most, Chain, Sound}
use Rattle.search.specs.declared.entry.Entry.{Entry}
use Rattle.search.specs.Mark.{Mark, Waits, Done, how, way, blank, key, marks, is_done, is_waiting, finished, Becomes}
use Rattle.search.specs.Search.{NoDearer, Search, Cheapest, NoWay}
use Rattle.search.specs.Queue.{waiter_of, First}
use Rattle.search.proofs.Marks as written
use Rattle.search.proofs.Steps as walk
use Rattle.search.proofs.Queues as queues

module _ (order : Counts → Counts → Comparison) (law : Lawful order) where
  within_or_not : (x : Counts) → Within x ⊎ (limit < steps x)
  within_or_not x = elim (cases_lt limit x.straight) [
    | inl far ↦ inr (omega arith)
    | inr near ↦ elim (cases_lt limit x.diagonal) [ inl far ↦ inr (omega arith) | inr low ↦ inl (near, low) ]
  ]

  capped_again : (x : Counts) → capped (capped x) ≡ capped x
  capped_again x = λ i. counts (a i) (b i)
    where
      a : (capped (capped x)).straight ≡ (capped x).straight
      a = omega arith

      b : (capped (capped x)).diagonal ≡ (capped x).diagonal
      b = omega arith

  -- what is no dearer than a short chain is short enough to be found
  pub near : (x y : Counts) → NoDearer order x y → 2 * steps y ≤ most → blocks x ≤ most
  near x y h short = elim (within_or_not x) [
    | inl w ↦ let a = (facts order law).few_blocks x y w (omega arith, omega arith) h in omega arith
    | inr far ↦ absurd (
        let z = capped x in
        let same : order y x ≡ order y z = law.caps y x ∙ ap (order (capped y)) (sym (capped_again x)) ∙ sym (law.caps y z) in
        let a = (facts order law).few_steps z y (omega arith, omega arith) (omega arith, omega arith) (ap at_least (sym same) ∙ h) in
        let b : most < steps z = omega arith in
        let y : ⊥ = omega arith in y)
  ]

module _ (n : ℕ) (out : Position → ℕ → Option Edge) (goal : ℕ → Bool) (sound : Sound n out goal) (order : Counts → Counts → Comparison) (law : Lawful order) where
  -- the first of the places that wait is finished
  pub turned : (m : ℕ) (s s' : ℕ → Mark) (q : Position) (base : Reached) (p : ℕ) → Search out order s q base 8 → First order m s p → Becomes s s' p (Done (how (s p))) → Search out order s' (Place p) (how (s p)) 0
  turned m s s' q base p i f new = walk.taken n out sound.fits order law s s' q base i p (how (s p)) (written.waits_is (s p) f.waits) least new
    where
      least : (j : ℕ) (b : Reached) → s j ≡ Waits b → NoDearer order (how (s p)).counts b.counts
      least j b w = elim (cases_eq j p) [
        | inl e ↦ subst (λ (r : Reached). NoDearer order (how (s p)).counts r.counts) (ap (λ x. how (s x)) (sym e) ∙ ap how w) (ap at_least ((facts order law).itself (key (s p))))
        | inr ne ↦ subst (λ (r : Reached). NoDearer order (how (s p)).counts r.counts) (ap how w) (queues.cheap order law (waiter_of s p) (waiter_of s j) (f.first j (ap is_waiting w) ne))
      ]

  module _ (s : ℕ → Mark) (p : ℕ) (r : Reached) (i : Search out order s (Place p) r 0) (hit : goal p ≡ true) (others : (k : ℕ) → (k ≡ p → ⊥) → is_done (s k) ≡ true → goal k ≡ false) where
    within : (k : ℕ) (c : Counts) → goal k ≡ true → Chain out (Place k) c → blocks c ≤ most → NoDearer order r.counts c
    within k c g ch w = elim ((facts order law).decided c r.counts) [
      | inr h ↦ h
      | inl less ↦
          let b = i.passed k c ch w less in
          elim (cases_eq k p) [
            | inl e ↦
                let same : b.0 ≡ r = written.same_done (s k) b.0 r b.1 (ap s e ∙ i.here) in
                subst (λ (x : Reached). NoDearer order x.counts c) same (i.best k b.0 c b.1 ch w)
            | inr ne ↦ absurd (both_ways _ (others k ne (ap is_done b.1)) g)
          ]
    ]

    cheapest : (k : ℕ) (c : Counts) → goal k ≡ true → Chain out (Place k) c → NoDearer order r.counts c
    cheapest k c g ch =
        let sh = sound.short k c g ch in
        let l = sh.short in
        law.passes c sh.counts r.counts (sh.cheap order law) (within sh.place sh.counts sh.hit sh.chain (omega arith))

    -- what is no dearer than the answer is short enough to be found
    found_near : (c : Counts) → NoDearer order c r.counts → blocks c ≤ most
    found_near c h =
        let sh = sound.short p r.counts hit (i.chained p r (inr i.here)) in
        near order law c sh.counts (law.passes sh.counts r.counts c (cheapest sh.place sh.counts sh.hit sh.chain) h) sh.short

    pub found : Cheapest out order goal s p r.counts
    found = record {
      hit = hit;
      from = r.from;
      there = i.here;
      cheapest = cheapest;
      chained = λ k b f. i.chained k b (inr f);
      best = λ k b c f ch. elim ((facts order law).decided c b.counts) [
        | inr h ↦ h
        | inl less ↦ i.best k b c f ch (found_near c (law.passes r.counts b.counts c (i.top k b f) ((facts order law).back c b.counts less)))
      ];
      passed = λ k c ch less. i.passed k c ch (found_near c ((facts order law).back c r.counts less)) less;
      made = λ k b f. i.made k b (inr f);
    }

  -- p is finished, and its edges are to be followed; of the other finished places none is a goal
  pub record Turn (s : ℕ → Mark) (p : ℕ) (r : Reached) : Type 0 where
    pub search : Search out order s (Place p) r 0
    pub missed_else : (k : ℕ) → (k ≡ p → ⊥) → is_done (s k) ≡ true → goal k ≡ false
    pub missed_all : goal p ≡ false → (k : ℕ) → is_done (s k) ≡ true → goal k ≡ false

  -- One turn, over the entries es₀: after the edges were followed they are es, and after p was finished es'.
  pub turn : (es₀ es es' : List Entry) (q : Position) (base r : Reached) (p : ℕ) → finished es ≡ finished es₀ → Search out order (marks es) q base 8 → First order (length es) (marks es) p
      → Becomes (marks es) (marks es') p (Done (how (marks es p))) → r ≡ way (get_or es' p blank) → ((k : ℕ) → finished es₀ k ≡ true → goal k ≡ false) → Turn (marks es') p r
  unfolding finished
  turn es₀ es es' q base r p same i f new read missed =
      let missed_else : (k : ℕ) → (k ≡ p → ⊥) → is_done (marks es' k) ≡ true → goal k ≡ false = λ k ne h. missed k (sym (ap (λ x. x k) same) ∙ sym (ap is_done (new.off k ne)) ∙ h) in
      record {
        search = subst (λ x. Search out order (marks es') (Place p) x 0) (sym (read ∙ written.done_way es' p (how (marks es p)) new.at)) (turned (length es) (marks es) (marks es') q base p i f new);
        missed_else = missed_else;
        missed_all = λ no-goal k h. elim (cases_eq k p) [ inl e ↦ ap goal e ∙ no-goal | inr ne ↦ missed_else k ne h ];
      }

  pub missing : (s : ℕ → Mark) (q : Position) (base : Reached) → Search out order s q base 8 → ((j : ℕ) (b : Reached) → s j ≡ Waits b → ⊥) → ((k : ℕ) → is_done (s k) ≡ true → goal k ≡ false) → NoWay out order goal
  missing s q base i idle others k c g ch =
      let sh = sound.short k c g ch in
      let l = sh.short in
      let b = walk.all_done n out sound.fits order law s q base i idle sh.place sh.counts sh.chain (omega arith) in
      both_ways _ (others sh.place (ap is_done b.1)) sh.hit
