-- What the frontier's queue is after a place was put in, made cheaper or taken out: an entry is written, and the heap follows.
use Rattle.std.proofs.Common.{◌≡◌, ℕ, zero, suc, ◌<◌, true, false, List, ◌∷◌, length, get_or, set, sym, refl, ap, ◌∙◌, subst, inl, inr, arith, length-set}
use Rattle.std.specs.List.Sorted.{IsPermutation}
use Rattle.std.specs.List.{Contains, AllByRecursion}
use Rattle.std.proofs.ByRecursion.{All-get_or}
use Rattle.std.proofs.lemmas.Bool.{cases_eq, both_ways}
use Rattle.std.proofs.lemmas.List.{get_or-set_other, get_or-set_same}
use Rattle.std.proofs.lemmas.List.Sorted.{Contains-permutation, length_permutation}
use Rattle.floor.specs.declared.Counts.{Counts}
use Rattle.rate.specs.declared.Comparison.{Comparison}
use Rattle.rate.specs.Laws.{Lawful}
use Rattle.waiting.specs.Heap.{Raised, Indexed, Carried, Heap}
use Rattle.waiting.specs.Heap as waiting
use Rattle.waiting.specs.Held.{held}
use Rattle.waiting.proofs.Ends as ends
use Rattle.search.specs.declared.Waiter.{Waiter}
use Rattle.search.specs.declared.entry.Entry.{Entry}
use Rattle.search.specs.declared.entry.State.TheVariants.{Finished}
use Rattle.search.specs.declared.entry.Reached.{Reached}
use Rattle.search.specs.declared.frontier.Frontier.{Frontier}
use Rattle.search.specs.Mark.{Mark, Waits, Done, way, how, key, mark, blank, waiting_by, marks, slots, is_waiting, Becomes, count}
use Rattle.search.specs.Search.{NoDearer}
use Rattle.search.specs.Queue.{waiter, waiter_of, sooner, sooner_rank, Known, Stands, Queue, First}
use Rattle.search.specs.Frontier.{Queued}
use Rattle.search.proofs.Marks as written
use Rattle.search.proofs.Queues as queues

-- what another place waits by, as the entry of p becomes another
off : (s s' : ℕ → Mark) (p : ℕ) (m : Mark) → Becomes s s' p m → (j : ℕ) → (j ≡ p → ⊥) → waiter_of s' j ≡ waiter_of s j
off s s' p m new j ne = ap (λ x. waiter j (key x)) (new.off j ne)

-- What waits at another place than p stands where it stood, as the entry of p is written.
pub still : (es : List Entry) (p : ℕ) (e : Entry) → p < length es → (a : Waiter) (k : ℕ) → (p ≡ a.place → ⊥) → Stands es a k → Stands (set es p e) a k
still es p e low a k ne h =
    let new = written.marks_set es p e low in
    let apart : a.place ≡ p → ⊥ = λ q. ne (sym q) in
    let size = length-set es p e in
    let inside = h.known.inside in
    record {
      known = record { inside = omega arith; waits = ap is_waiting (new.off _ apart) ∙ h.known.waits; is = h.known.is ∙ sym (off (marks es) (marks (set es p e)) p (mark e) new _ apart) };
      stands = written.slots_off es p e low _ apart ∙ h.stands;
    }

-- the place of p is finished
abbrev pub ended : Entry → Entry
ended e = record { straight = e.straight; diagonal = e.diagonal; from = e.from; slot = e.slot; state = Finished; direct = e.direct }

abbrev pub finish : List Entry → ℕ → List Entry
finish es p = set es p (ended (get_or es p blank))

-- what a list has beside its first
rest : (a x : Waiter) (qs : List Waiter) → (a ≡ x → ⊥) → (k : ℕ) → k < length (a ∷ qs) → get_or (a ∷ qs) k x ≡ x → Contains qs x
rest a x qs ne zero low is = absurd (ne is)
rest a x qs ne (suc k) low is = (k, omega arith, is)

module _ (order : Counts → Counts → Comparison) (es : List Entry) (qs : List Waiter) (queue : Queue order es qs) where
  -- the entry of p is written, as one that waits
  module _ (p : ℕ) (low : p < length es) (r : Reached) (e : Entry) (is : e ≡ waiting_by r) where
    wrote : Becomes (marks es) (marks (set es p e)) p (Waits r)
    wrote = subst (Becomes (marks es) (marks (set es p e)) p) (ap mark is ∙ written.back_again r) (written.marks_set es p e low)

    pub becomes : (es₂ : List Entry) → marks es₂ ≡ marks (set es p e) → Becomes (marks es) (marks es₂) p (Waits r)
    becomes es₂ m = subst (λ s. Becomes (marks es) s p (Waits r)) (sym m) wrote

    now_by : (es₂ : List Entry) → marks es₂ ≡ marks (set es p e) → (j : ℕ) → j ≡ p → waiter p r.counts ≡ waiter_of (marks es₂) j
    now_by es₂ m j same = sym (ap (waiter_of (marks es₂)) same ∙ ap (λ x. waiter p (key x)) (becomes es₂ m).at)

    pub known : Known (set es p e) (waiter p r.counts)
    known = let size = length-set es p e in record { inside = omega arith; waits = ap is_waiting wrote.at; is = now_by (set es p e) refl p refl }

    -- it did not wait
    module _ (idle : is_waiting (marks es p) ≡ false) where
      pub beside : Heap (sooner order) (Stands (set es p e)) qs
      unfolding Indexed
      beside = record { heaped = queue.heap.heaped; indexed = λ k d f. still es p e low _ k (All-get_or _ qs k d f (queues.away order es qs queue p idle)) (queue.heap.indexed k d f) }

      pub put_in : (order' : Counts → Counts → Comparison) (es₂ : List Entry) (qs₂ : List Waiter) → marks es₂ ≡ marks (set es p e) → length es₂ ≡ length (set es p e) → Heap (sooner order') (Stands es₂) qs₂ → IsPermutation (waiter p r.counts ∷ qs) qs₂ → Queue order' es₂ qs₂
      put_in order' es₂ qs₂ m l h sh =
          let new = becomes es₂ m in
          record {
            heap = h;
            listed = λ j w. Contains-permutation (waiter p r.counts ∷ qs) qs₂ _ sh (elim (cases_eq j p) [
              | inl same ↦ (0, omega arith, now_by es₂ m j same)
              | inr apart ↦
                  let at = queue.listed j (sym (ap is_waiting (new.off j apart)) ∙ w) in
                  let there = at.1 in
                  subst (Contains (waiter p r.counts ∷ qs)) (sym (off (marks es) (marks es₂) p (Waits r) new j apart)) (suc at.0, omega arith, at.2)
            ]);
            many =
                let size : length es₂ ≡ length es = l ∙ length-set es p e in
                let up = written.count_up (λ k. is_waiting (marks es k)) (λ k. is_waiting (marks es₂ k)) (length es) p low idle (ap is_waiting new.at) (λ j ne. ap is_waiting (new.off j ne)) in
                let same = ap (count (λ k. is_waiting (marks es₂ k))) size in
                let many = queue.many in
                let long = length_permutation (waiter p r.counts ∷ qs) qs₂ sh in
                omega arith;
          }

    -- it waited
    module _ (waits : is_waiting (marks es p) ≡ true) where
      pub carried : Lawful order → NoDearer order r.counts (key (marks es p)) → Carried (Raised (sooner order)) (Stands (set es p e)) (λ a b. a.place ≡ b.place → ⊥) (waiter p r.counts) qs (slots es p)
      unfolding Indexed waiting.Others
      carried law better = record {
        inside = queues.inside order es qs queue p waits;
        shaped = ends.raised (sooner order) (sooner_rank order law) qs (slots es p) (waiter p r.counts) (queues.inside order es qs queue p waits)
            (λ d. ap (λ a. sooner order a (waiter p r.counts)) (queues.read order es qs queue p waits d) ∙ queues.no_later order p r.counts (key (marks es p)) better) queue.heap.heaped;
        indexed = λ k d f ne. still es p e low _ k (queues.elsewhere order es qs queue p waits k d f ne) (queue.heap.indexed k d f);
        differs = queues.elsewhere order es qs queue p waits;
      }

      pub moved_up : (order' : Counts → Counts → Comparison) (es₂ : List Entry) (qs₂ : List Waiter) → marks es₂ ≡ marks (set es p e) → length es₂ ≡ length (set es p e) → Heap (sooner order') (Stands es₂) qs₂ → IsPermutation (set qs (slots es p) (waiter p r.counts)) qs₂ → Queue order' es₂ qs₂
      moved_up order' es₂ qs₂ m l h sh =
          let new = becomes es₂ m in
          let at = slots es p in
          let inside : at < length qs = queues.inside order es qs queue p waits in
          let long = length-set qs at (waiter p r.counts) in
          let as_was : (j : ℕ) → is_waiting (marks es₂ j) ≡ is_waiting (marks es j) = λ j. elim (cases_eq j p) [
            | inl same ↦ ap (λ k. is_waiting (marks es₂ k)) same ∙ ap is_waiting new.at ∙ sym waits ∙ ap (λ k. is_waiting (marks es k)) (sym same)
            | inr apart ↦ ap is_waiting (new.off j apart)
          ] in
          record {
            heap = h;
            listed = λ j w. Contains-permutation (set qs at (waiter p r.counts)) qs₂ _ sh (elim (cases_eq j p) [
              | inl same ↦ (at, omega arith, get_or-set_same qs at (waiter p r.counts) _ inside ∙ now_by es₂ m j same)
              | inr apart ↦
                  let old = waiter_of (marks es) j in
                  let there = queue.listed j (sym (as_was j) ∙ w) in
                  let low = there.1 in
                  let ne : there.0 ≡ at → ⊥ = λ q. apart (ap (λ (a : Waiter). a.place) (sym there.2 ∙ ap (λ k. get_or qs k old) q ∙ queues.read order es qs queue p waits old)) in
                  subst (Contains (set qs at (waiter p r.counts))) (sym (off (marks es) (marks es₂) p (Waits r) new j apart)) (there.0, omega arith, get_or-set_other qs at there.0 (waiter p r.counts) old ne ∙ there.2)
            ]);
            many =
                let size : length es₂ ≡ length es = l ∙ length-set es p e in
                length_permutation (set qs at (waiter p r.counts)) qs₂ sh ∙ long ∙ queue.many ∙ written.count_same (λ k. is_waiting (marks es k)) (λ k. is_waiting (marks es₂ k)) (length es) (λ k _. sym (as_was k))
                ∙ ap (count (λ k. is_waiting (marks es₂ k))) (sym size);
          }

  -- a is the first of the queue, and is out of it; what is left is qs₂, and the entries are es₂
  module _ (law : Lawful order) (order' : Counts → Counts → Comparison) (es₂ : List Entry) (qs₂ : List Waiter) (a : Waiter) (m : marks es₂ ≡ marks es) (size : length es₂ ≡ length es)
      (least : waiting.First (sooner order) a qs) (h : Heap (sooner order') (Stands es₂) qs₂) (sh : IsPermutation qs (a ∷ qs₂)) where
    pub first : First order (length es) (marks es) a.place
    first = queues.first order es qs queue law a qs₂ sh least

    pub inside : a.place < length es₂
    inside = let w = first.within in omega arith

    -- it is finished
    pub done : Becomes (marks es) (marks (finish es₂ a.place)) a.place (Done (how (marks es a.place)))
    unfolding marks
    done =
        let p = a.place in
        let old = get_or es₂ p blank in
        let waits : is_waiting (marks es₂ p) ≡ true = ap (λ s. is_waiting (s p)) m ∙ first.waits in
        let was : Done (way old) ≡ Done (how (marks es p)) = ap Done (sym (written.how_waits old.state (way old) waits) ∙ ap (λ s. how (s p)) m) in
        subst (λ s. Becomes s (marks (finish es₂ p)) p (Done (how (marks es p)))) m (subst (Becomes (marks es₂) (marks (finish es₂ p)) p) was (written.marks_set es₂ p (ended old) inside))

    pub taken : AllByRecursion (λ b. a.place ≡ b.place → ⊥) qs₂ → Queue order' (finish es₂ a.place) qs₂
    unfolding Indexed
    taken apart =
        let p = a.place in
        let es₃ = finish es₂ p in
        let gone : is_waiting (marks es₃ p) ≡ false = ap is_waiting done.at in
        record {
          heap = record { heaped = h.heaped; indexed = λ k d f. still es₂ p (ended (get_or es₂ p blank)) inside _ k (All-get_or _ qs₂ k d f apart) (h.indexed k d f) };
          listed = λ j w.
              let ne : j ≡ p → ⊥ = λ q. both_ways _ (ap (λ k. is_waiting (marks es₃ k)) q ∙ gone) w in
              let at = Contains-permutation qs (a ∷ qs₂) _ sh (queue.listed j (sym (ap is_waiting (done.off j ne)) ∙ w)) in
              subst (Contains qs₂) (sym (off (marks es) (marks es₃) p _ done j ne)) (rest a (waiter_of (marks es) j) qs₂ (λ q. ne (ap (λ (b : Waiter). b.place) (sym q))) at.0 at.1 at.2);
          many =
              let up = written.count_up (λ k. is_waiting (marks es₃ k)) (λ k. is_waiting (marks es k)) (length es) p first.within gone first.waits (λ j ne. sym (ap is_waiting (done.off j ne))) in
              let same = ap (count (λ k. is_waiting (marks es₃ k))) (length-set es₂ p (ended (get_or es₂ p blank)) ∙ size) in
              let many = queue.many in
              let long = length_permutation qs (a ∷ qs₂) sh in
              omega arith;
        }

-- the frontier f, as its entries became es and its queue followed
pub queued : {R : Type 0} (by : R → Counts → Counts → Comparison) (f f' : Frontier R) (order : Counts → Counts → Comparison) (es : List Entry) → f'.entries.now ≡ es → length es ≡ length f.entries.now
    → length f'.places.now.slots.now ≡ length f.places.now.slots.now → order ≡ by f'.rate.now → Queued by f → Queue order es (held f'.places.now) → Queued by f'
queued by f f' order es is size room o q line =
    let a = q.few in
    let b = q.roomy in
    let long = ap length is in
    record { few = omega arith; roomy = omega arith; queue = subst (λ (xs : List Entry). Queue (by f'.rate.now) xs (held f'.places.now)) (sym is) (subst (λ b. Queue b es (held f'.places.now)) o line) }
