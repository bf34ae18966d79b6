-- The places that wait, in the order in which they are to be finished.
use Rattle.std.specs.Prelude.{◌≡◌, ℕ, ◌<◌, Bool, true, false, List, length, ◌≢◌, nat_lt, refl}
use Rattle.std.proofs.Common.{sym, ap, ◌∙◌, arith}
use Rattle.std.specs.Cmp.{IsStrictWeakOrder}
use Rattle.std.specs.List.{Contains}
use Rattle.std.proofs.lemmas.Bool.{both_ways, ltb-true, ltb-false, le-ltb}
use Rattle.floor.specs.declared.Counts.{Counts}
use Rattle.floor.specs.Tally.{counts}
use Rattle.rate.specs.declared.Comparison.{Comparison}
use Rattle.rate.specs.declared.Comparison.TheVariants.{Cheaper, Same, Dearer}
use Rattle.rate.specs.Laws.{turned, at_least, Lawful}
use Rattle.waiting.specs.Order as waiting
use Rattle.waiting.specs.Heap.{Heap}
use Rattle.search.specs.declared.Waiter.{Waiter}
use Rattle.search.specs.declared.entry.Entry.{Entry}
use Rattle.search.specs.Mark.{Mark, is_waiting, key, marks, slots, count}

-- the place p, as it waits by the counts c
abbrev pub waiter : ℕ → Counts → Waiter
waiter p c = record { straight = c.straight; diagonal = c.diagonal; place = p }

-- what lists of waiters are made of: no place in particular, and no counts
abbrev pub blank_waiter : Waiter
blank_waiter = record { straight = 0; diagonal = 0; place = 0 }

-- the place p, as it waits by what its mark says
abbrev pub waiter_of : (ℕ → Mark) → ℕ → Waiter
waiter_of s p = waiter p (key (s p))

-- the counts that a waits by
abbrev pub counts_of : Waiter → Counts
counts_of a = counts a.straight a.diagonal

-- the cheaper goes first, and of two that cost the same the lower
abbrev pub tie_broken : Comparison → Bool → Bool
tie_broken Cheaper lower = true
tie_broken Same lower = lower
tie_broken Dearer lower = false

-- a goes before b: it is cheaper, or costs the same and its place has the lower number
abbrev pub sooner : (Counts → Counts → Comparison) → Waiter → Waiter → Bool
sooner order a b = tie_broken (order (counts_of a) (counts_of b)) (nat_lt a.place b.place)

-- the place of a is one of those that the entries are of, and waits by the counts of a
pub record Known (es : List Entry) (a : Waiter) : Type 0 where
  pub inside : a.place < length es
  pub waits : is_waiting (marks es a.place) ≡ true
  pub is : a ≡ waiter_of (marks es) a.place

-- and its entry says that it stands at k
pub record Stands (es : List Entry) (a : Waiter) (k : ℕ) : Type 0 where
  pub known : Known es a
  pub stands : slots es a.place ≡ k

-- qs are the places that wait, each once and by the counts that its entry has, in heap order, and each entry says where its place stands
pub record Queue (order : Counts → Counts → Comparison) (es : List Entry) (qs : List Waiter) : Type 0 where
  pub heap : Heap (sooner order) (Stands es) qs
  pub listed : (p : ℕ) → is_waiting (marks es p) ≡ true → Contains qs (waiter_of (marks es) p)
  pub many : length qs ≡ count (λ k. is_waiting (marks es k)) (length es)

-- the place p below n waits, and every other place that waits goes after it
pub record First (order : Counts → Counts → Comparison) (n : ℕ) (s : ℕ → Mark) (p : ℕ) : Type 0 where
  pub within : p < n
  pub waits : is_waiting (s p) ≡ true
  pub first : (j : ℕ) → is_waiting (s j) ≡ true → (j ≢ p) → sooner order (waiter_of s p) (waiter_of s j) ≡ true

-- What breaking ties keeps of a comparison.
rank_one_way : (c : Comparison) (a b : ℕ) → tie_broken c (nat_lt a b) ≡ true → tie_broken (turned c) (nat_lt b a) ≡ false
rank_one_way Cheaper a b e = refl
rank_one_way Same a b e = le-ltb b a (let h = ltb-true a b e in omega arith)
rank_one_way Dearer a b e = absurd (both_ways false refl e)

not_sooner : (c : Comparison) (lower : Bool) → tie_broken c lower ≡ false → at_least c ≡ true
not_sooner Cheaper lower e = absurd (both_ways true e refl)
not_sooner Same lower e = refl
not_sooner Dearer lower e = refl

not_lower : (c : Comparison) (lower : Bool) → tie_broken c lower ≡ false → at_least (turned c) ≡ true → lower ≡ false
not_lower Cheaper lower e h = absurd (both_ways true e refl)
not_lower Same lower e h = e
not_lower Dearer lower e h = absurd (both_ways false refl h)

later : (c : Comparison) (lower : Bool) → at_least c ≡ true → (at_least (turned c) ≡ true → lower ≡ false) → tie_broken c lower ≡ false
later Cheaper lower h f = absurd (both_ways false refl h)
later Same lower h f = f refl
later Dearer lower h f = refl

-- Under a lawful rate, to go before is an order: one way at most, and not to go before is passed on.
pub sooner_rank : (order : Counts → Counts → Comparison) → Lawful order → IsStrictWeakOrder (sooner order)
sooner_rank order law = record {
  one_way = λ a b e. ap (λ c. tie_broken c (nat_lt b.place a.place)) (law.turns (counts_of a) (counts_of b)) ∙ rank_one_way (order (counts_of a) (counts_of b)) a.place b.place e;
  chain = λ a b c e f.
      let x = counts_of a in
      let y = counts_of b in
      let z = counts_of c in
      let back : (u v : Counts) → at_least (order v u) ≡ at_least (turned (order u v)) = λ u v. ap at_least (law.turns u v) in
      let xy = not_sooner (order x y) (nat_lt a.place b.place) e in
      let yz = not_sooner (order y z) (nat_lt b.place c.place) f in
      later (order x z) (nat_lt a.place c.place) (law.passes _ _ _ xy yz) (λ zx'.
      let zx = back x z ∙ zx' in
      let ab = ltb-false a.place b.place (not_lower (order x y) (nat_lt a.place b.place) e (sym (back x y) ∙ law.passes _ _ _ yz zx)) in
      let bc = ltb-false b.place c.place (not_lower (order y z) (nat_lt b.place c.place) f (sym (back y z) ∙ law.passes _ _ _ zx xy)) in
      le-ltb a.place c.place (omega arith));
}

-- two keepers of the entries that differ in the slots at most
pub record Kept {S : Type 0} (by : S → Counts → Counts → Comparison) (entries : S → List Entry) (lent : S → ℕ) (s t : S) : Type 0 where
  pub order : by t ≡ by s
  pub marks : marks (entries t) ≡ marks (entries s)
  pub size : length (entries t) ≡ length (entries s)
  pub lender : lent t ≡ lent s

-- The places that wait keep the laws of an order whose index is the slots of the entries.
pub waiters_lawful : {S : Type 0} (by : S → Counts → Counts → Comparison) → ((s : S) → Lawful (by s)) → (entries : S → List Entry) (lender : S → ℕ)
    → waiting.Lawful (λ s. sooner (by s)) (λ s. Known (entries s)) (λ s. Stands (entries s)) (λ (a b : Waiter). a.place ≢ b.place) (Kept by entries lender)
waiters_lawful by law entries lender = record {
  ranks = λ s. sooner_rank (by s) (law s);
  indexed = λ s x k h. h.known;
  differ = λ s x y j k h i ne same. ne (sym h.stands ∙ ap (slots (entries s)) same ∙ i.stands);
  self = λ s. record { order = refl; marks = refl; size = refl; lender = refl };
  onward = λ s t u h i. record { order = i.order ∙ h.order; marks = i.marks ∙ h.marks; size = i.size ∙ h.size; lender = i.lender ∙ h.lender };
  order = λ s t h. ap sooner h.order;
  known = λ s t x h k.
      let low = k.inside in
      let size = h.size in
      record { inside = omega arith; waits = ap (λ m. is_waiting (m x.place)) h.marks ∙ k.waits; is = k.is ∙ ap (λ m. waiter_of m x.place) (sym h.marks) };
}
