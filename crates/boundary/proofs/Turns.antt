-- A batch, query by query: one more is put to the plan so far, and its reply is written.
use Rattle.std.proofs.Common.{◌≡◌, ℕ, ◌+◌, ◌<◌, ◌≢◌, List, [], ◌∷◌, ◌++◌, length, get_or, take, set, sym, refl, ap, ◌∙◌, subst, arith, get_or-set_other, get_or-set_same, below_more}
use Rattle.std.proofs.lemmas.List.{take_more, get_or_default}
use Rattle.floor.specs.declared.Counts.{Counts}
use Rattle.floor.specs.Plans.{Plan}
use Rattle.rate.specs.declared.Comparison.{Comparison}
use Rattle.boundary.specs.declared.numbers.Query.{Query}
use Rattle.boundary.specs.declared.numbers.Reply.{Reply}
use Rattle.boundary.specs.Numbers.{action_in}
use Rattle.boundary.specs.Batches.{after_by, after_queries, RightBy, RightUpTo}

after-++ : (p : Plan) (xs ys : List Query) → after_queries p (xs ++ ys) ≡ after_queries (after_queries p xs) ys
after-++ p [] ys = refl
after-++ p (x ∷ xs) ys = after-++ (after_by p x (action_in x)) xs ys

pub plan_more : (p now next : Plan) (qs : List Query) (i : ℕ) (q : Query) → i < length qs → now ≡ after_queries p (take i qs) → next ≡ after_by now (get_or qs i q) (action_in (get_or qs i q)) → next ≡ after_queries p (take (i + 1) qs)
plan_more p now next qs i q l there on =
    on ∙ ap (λ z. after_by z (get_or qs i q) (action_in (get_or qs i q))) there ∙ sym (ap (after_queries p) (take_more qs i q l) ∙ after-++ p (take i qs) (get_or qs i q ∷ []))

module _ (order : Counts → Counts → Comparison) (w v : ℕ) where
  pub right_more : (p : Plan) (qs : List Query) (rs : List Reply) (i : ℕ) (x : Reply) → i < length rs → RightUpTo order w v p qs rs i →
      (d : Query) → i < length qs → RightBy order w v (after_queries p (take i qs)) (get_or qs i d) (action_in (get_or qs i d)) x → RightUpTo order w v p qs (set rs i x) (i + 1)
  right_more p qs rs i x l h d turn new =
      below_more _ _
      (λ k b q r.
      let ne : k ≢ i = omega arith in
      subst (λ z. RightBy order w v (after_queries p (take k qs)) (get_or qs k q) (action_in (get_or qs k q)) z) (sym (get_or-set_other rs i k x r ne)) (h k b q r))
      (λ q r.
      subst (λ z. RightBy order w v (after_queries p (take i qs)) (get_or qs i q) (action_in (get_or qs i q)) z) (sym (get_or-set_same rs i x r l))
      (subst (λ z. RightBy order w v (after_queries p (take i qs)) z (action_in z) x) (get_or_default qs i d q turn) new))
