-- Calls of `next` on pieces, the fields of a line, and a text without the line feed at its end.
use Rattle.std.proofs.Common.{◌≡◌, ℕ, ◌+◌, List, [], ◌∷◌, ◌++◌, drop, Some, None, Option, Bor, MatchOption, sym, refl, ap, ◌∙◌, subst}
use Rattle.std.specs.Option.{unwrap_or}
use Rattle.std.proofs.lemmas.Bool.{cond-false, ne_eqb}
use Rattle.std.proofs.lemmas.Iterator.{YieldsList}
use Rattle.std.proofs.lemmas.List.{drop-drop}
use Rattle.sheet.specs.Format.{unended, three}

-- a call of `next` takes the first of what is left
module _ {S A B : Type 0} {steps : S → Option A → S → Type 0} {v : A → B} (s t : S) where
  pub took : (x : A) (ys : List B) → YieldsList steps v s ys → steps s (Some x) t → (more : List B) × (ys ≡ v x ∷ more) × YieldsList steps v t more
  took x [] all call = absurd (all.runs x t call)
  took x (y ∷ ys) all call = let one = all.runs.1 x t call in (ys, ap (λ z. z ∷ ys) (sym one.0), record { runs = one.1 })

  -- the same, where the first n are gone
  pub took_at : (x : A) (ys : List B) (n : ℕ) → YieldsList steps v s (drop n ys) → steps s (Some x) t → (drop n ys ≡ v x ∷ drop (n + 1) ys) × YieldsList steps v t (drop (n + 1) ys)
  took_at x ys n all call =
      let one = took x (drop n ys) all call in
      let more : drop (n + 1) ys ≡ one.0 = sym (drop-drop 1 n ys) ∙ ap (drop 1) one.1 in
      (one.1 ∙ ap (λ l. v x ∷ l) (sym more), subst (YieldsList steps v t) (sym more) one.2)

  pub none_left : (ys : List B) → YieldsList steps v s ys → steps s None t → ys ≡ []
  none_left [] all call = refl
  none_left (y ∷ ys) all call = absurd (all.runs.0 t call)

-- three pieces are told from fewer and from more by four calls
module _ {S A B : Type 0} {steps : S → Option A → S → Type 0} {v : A → B} (s t : S) (a : A) where
  pub one_piece : (e : S) (ys : List B) → YieldsList steps v s ys → steps s (Some a) t → steps t None e → None ≡ three ys
  one_piece e [] all first end = refl
  one_piece e (x ∷ []) all first end = refl
  one_piece e (x ∷ y ∷ ys) all first end = absurd ((all.runs.1 _ _ first).1.0 _ end)

  module _ (u : S) (b : A) where
    pub two_pieces : (e : S) (ys : List B) → YieldsList steps v s ys → steps s (Some a) t → steps t (Some b) u → steps u None e → None ≡ three ys
    two_pieces e [] all first second end = refl
    two_pieces e (x ∷ []) all first second end = refl
    two_pieces e (x ∷ y ∷ []) all first second end = refl
    two_pieces e (x ∷ y ∷ z ∷ ys) all first second end = absurd (((all.runs.1 _ _ first).1.1 _ _ second).1.0 _ end)

    module _ (w : S) (c : A) where
      pub three_pieces : (e : S) (ys : List B) → YieldsList steps v s ys → steps s (Some a) t → steps t (Some b) u → steps u (Some c) w → steps w None e → Some (v a, v b, v c) ≡ three ys
      three_pieces e [] all first second third end = absurd (all.runs _ _ first)
      three_pieces e (x ∷ []) all first second third end = absurd ((all.runs.1 _ _ first).1 _ _ second)
      three_pieces e (x ∷ y ∷ []) all first second third end = absurd (((all.runs.1 _ _ first).1.1 _ _ second).1 _ _ third)
      three_pieces e (x ∷ y ∷ z ∷ []) all first second third end =
          let one = all.runs.1 _ _ first in
          let two = one.1.1 _ _ second in
          let three = two.1.1 _ _ third in
          λ i. Some (one.0 i, two.0 i, three.0 i)
      three_pieces e (x ∷ y ∷ z ∷ x′ ∷ ys) all first second third end = absurd ((((all.runs.1 _ _ first).1.1 _ _ second).1.1 _ _ third).1.0 _ end)

      pub more_pieces : (e : S) (d : A) (ys : List B) → YieldsList steps v s ys → steps s (Some a) t → steps t (Some b) u → steps u (Some c) w → steps w (Some d) e → None ≡ three ys
      more_pieces e d [] all first second third fourth = refl
      more_pieces e d (x ∷ []) all first second third fourth = refl
      more_pieces e d (x ∷ y ∷ []) all first second third fourth = refl
      more_pieces e d (x ∷ y ∷ z ∷ []) all first second third fourth = absurd ((((all.runs.1 _ _ first).1.1 _ _ second).1.1 _ _ third).1 _ _ fourth)
      more_pieces e d (x ∷ y ∷ z ∷ x′ ∷ ys) all first second third fourth = refl

pub without_feed : (text : List ℕ) → unended (text ++ 10 ∷ []) ≡ text
without_feed [] = refl
without_feed (b ∷ []) = refl
without_feed (b ∷ c ∷ text) = ap (λ l. b ∷ l) (without_feed (c ∷ text))

not_ended : (text : List ℕ) → ((front : List ℕ) → text ≡ front ++ 10 ∷ [] → ⊥) → unended text ≡ text
not_ended [] none = refl
not_ended (b ∷ []) none = cond-false _ _ _ (ne_eqb b 10 (λ same. none [] (ap (λ x. x ∷ []) same)))
not_ended (b ∷ c ∷ text) none = ap (λ l. b ∷ l) (not_ended (c ∷ text) (λ front is. none (b ∷ front) (ap (λ l. b ∷ l) is)))

-- what is left of a text that loses a line feed at its end, if it has one
pub front_of : (text : Bor (List ℕ)) (r : Option (Bor (List ℕ))) → MatchOption r ((front : List ℕ) → text.now ≡ front ++ 10 ∷ [] → ⊥) (λ x. text.now ≡ x.now ++ 10 ∷ []) → (unwrap_or r text).now ≡ unended text.now
front_of text None none = sym (not_ended text.now none)
front_of text (Some x) is = sym (ap unended is ∙ without_feed x.now)
