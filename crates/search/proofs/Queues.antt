-- The order of what waits, and what the queue says of the places.
use Rattle.std.proofs.Common.{◌≡◌, ℕ, ◌<◌, Bool, true, false, ltb, List, [], ◌∷◌, length, get_or, sym, refl, ap, ◌∙◌, subst, arith}
use Rattle.std.specs.List.Sorted.{IsPermutation}
use Rattle.std.specs.List.{AllByRecursion}
use Rattle.std.proofs.ByRecursion.{All-from_get_or}
use Rattle.std.proofs.lemmas.List.Elements.{All-contains}
use Rattle.std.proofs.lemmas.List.Sorted.{All-permutation}
use Rattle.std.proofs.lemmas.List.{get_or_default}
use Rattle.std.proofs.lemmas.Bool.{both_ways, ltb-false, lt-ltb, le-ltb}
use Rattle.floor.specs.declared.Counts.{Counts}
use Rattle.rate.specs.declared.Comparison.{Comparison}
use Rattle.rate.specs.declared.Comparison.TheVariants.{Cheaper, Same, Dearer}
use Rattle.rate.specs.Laws.{turned, at_least, Lawful}
use Rattle.waiting.specs.Heap as waiting
use Rattle.waiting.proofs.Ends as ends
use Rattle.search.specs.declared.Waiter.{Waiter}
use Rattle.search.specs.declared.entry.Entry.{Entry}
use Rattle.search.specs.Mark.{Unmet, is_waiting, marks, slots}
use Rattle.search.specs.Search.{NoDearer}
use Rattle.search.specs.Queue.{waiter, waiter_of, counts_of, tie_broken, sooner, Known, Queue, First}
use Rattle.search.proofs.Marks.{count_lt, count_none}

-- of two places one goes before the other
settles : (c : Comparison) (a b : ℕ) → (a ≡ b → ⊥) → tie_broken c (ltb a b) ≡ false → tie_broken (turned c) (ltb b a) ≡ true
settles Cheaper a b ne e = absurd (both_ways true e refl)
settles Same a b ne e = lt-ltb b a (let h = ltb-false a b e in omega arith)
settles Dearer a b ne e = refl

total : (order : Counts → Counts → Comparison) → Lawful order → (a b : Waiter) → (a.place ≡ b.place → ⊥) → sooner order a b ≡ false → sooner order b a ≡ true
total order law a b ne e = ap (λ c. tie_broken c (ltb b.place a.place)) (law.turns (counts_of a) (counts_of b)) ∙ settles (order (counts_of a) (counts_of b)) a.place b.place ne e

-- one that goes before another costs no more
no_dearer : (c : Comparison) (lower : Bool) → tie_broken c lower ≡ true → at_least (turned c) ≡ true
no_dearer Cheaper lower e = refl
no_dearer Same lower e = refl
no_dearer Dearer lower e = absurd (both_ways false refl e)

pub cheap : (order : Counts → Counts → Comparison) → Lawful order → (a b : Waiter) → sooner order a b ≡ true → NoDearer order (counts_of a) (counts_of b)
cheap order law a b e = ap at_least (law.turns (counts_of a) (counts_of b)) ∙ no_dearer (order (counts_of a) (counts_of b)) (ltb a.place b.place) e

-- what is cheaper costs no more
pub gains : (order : Counts → Counts → Comparison) → Lawful order → (x y : Counts) → order x y ≡ Cheaper → NoDearer order x y
gains order law x y e = ap at_least (law.turns x y ∙ ap turned e)

-- with counts that cost no more, a place goes no later
later : (c : Comparison) (p : ℕ) → at_least c ≡ true → tie_broken c (ltb p p) ≡ false
later Cheaper p h = absurd (both_ways false refl h)
later Same p h = le-ltb p p (omega arith)
later Dearer p h = refl

pub no_later : (order : Counts → Counts → Comparison) (p : ℕ) (x y : Counts) → NoDearer order x y → sooner order (waiter p y) (waiter p x) ≡ false
no_later order p x y h = later (order y x) p h

module _ (order : Counts → Counts → Comparison) (es : List Entry) (qs : List Waiter) (queue : Queue order es qs) where
  -- a place that does not wait is not in the queue, and there is room for it
  pub away : (p : ℕ) → is_waiting (marks es p) ≡ false → AllByRecursion (λ a. p ≡ a.place → ⊥) qs
  unfolding waiting.Indexed
  away p idle = All-from_get_or _ qs (waiter_of (marks es) p) (λ k f same. both_ways _ idle (ap (λ j. is_waiting (marks es j)) same ∙ (queue.heap.indexed k _ f).known.waits))

  pub room : (p : ℕ) → p < length es → is_waiting (marks es p) ≡ false → length qs < length es
  room p l idle = let a = count_lt (λ k. is_waiting (marks es k)) (length es) p l idle in let b = queue.many in omega arith

  -- the first of the queue is the first of the places that wait
  pub first : Lawful order → (a : Waiter) (qs' : List Waiter) → IsPermutation qs (a ∷ qs') → waiting.First (sooner order) a qs → First order (length es) (marks es) a.place
  unfolding waiting.First waiting.Indexed
  first law a qs' sh least =
      let known : Known es a = All-permutation (Known es) qs (a ∷ qs') sh (λ k d f. (queue.heap.indexed k d f).known) 0 a (omega arith) in
      record {
        within = known.inside;
        waits = known.waits;
        first = λ j w ne. subst (λ b. sooner order b (waiter_of (marks es) j) ≡ true) known.is (total order law (waiter_of (marks es) j) a ne (All-contains (λ b. sooner order b a ≡ false) qs _ least (queue.listed j w)));
      }

  module _ (p : ℕ) (waits : is_waiting (marks es p) ≡ true) where
    -- where p stands
    stands_at : slots es p ≡ (queue.listed p waits).0
    unfolding waiting.Indexed
    stands_at = let h = queue.listed p waits in ap (λ (a : Waiter). slots es a.place) (sym h.2) ∙ (queue.heap.indexed h.0 _ h.1).stands

    pub inside : slots es p < length qs
    inside = let h = (queue.listed p waits).1 in let e = stands_at in omega arith

    pub read : (d : Waiter) → get_or qs (slots es p) d ≡ waiter_of (marks es) p
    read d = let h = queue.listed p waits in ap (λ k. get_or qs k d) stands_at ∙ get_or_default qs h.0 d _ h.1 ∙ h.2

    pub elsewhere : (k : ℕ) (d : Waiter) → k < length qs → (k ≡ slots es p → ⊥) → p ≡ (get_or qs k d).place → ⊥
    unfolding waiting.Indexed
    elsewhere k d f ne same = ne (sym (queue.heap.indexed k d f).stands ∙ ap (slots es) (sym same))

-- Nothing waits yet.
pub empty : (order : Counts → Counts → Comparison) (es : List Entry) → ((k : ℕ) → marks es k ≡ Unmet) → Queue order es []
empty order es clean = record {
  heap = ends.nothing _ _;
  listed = λ p w. absurd (both_ways _ (ap is_waiting (clean p)) w);
  many = count_none _ (length es) (λ k. ap is_waiting (clean k));
}
