-- The exchange argument: two steps in a row that a pruned route does not take are exchanged for others that cost no more.
use Rattle.std.proofs.Common.{◌≡◌, ℕ, zero, suc, ◌+◌, ◌*◌, ◌<◌, Bool, true, false, cond, not, List, [], ◌∷◌, sym, refl, ap, subst, inl, inr, not-suc-le-zero, arith}
use Rattle.floor.specs.declared.Heading.{Heading}
use Rattle.floor.specs.declared.Side.{Side}
use Rattle.floor.specs.Tally.{counts, Dominates}
use Rattle.floor.specs.Plane.{Point, turn, opposite, diagonal, step}
use Rattle.floor.specs.Plans.{legal}
use Rattle.floor.specs.Routes.{end, one, tally, Walk}
use Rattle.floor.specs.Jumps.{stop}
use Rattle.floor.proofs.Plane.{both_sides, turn_forth, beside_straight, beside_diagonal, Turned, ahead, behind, by1, by2, by3, turned, undo, swap, beside, diagonal_by2, diagonal_by3, straight_by3}
use Rattle.floor.proofs.Legal.{Legal, legal_parts, legal_from}
use Rattle.std.proofs.lemmas.Bool.{cases_Bool, both_ways, and_from}

-- The counts of a step, by its kind.
pub record Count (a b : ℕ) (h : Heading) : Type 0 where
  pub straights : (one h).straight ≡ a
  pub diagonals : (one h).diagonal ≡ b

pub slanted : (h : Heading) → diagonal h ≡ true → Count 0 1 h
slanted h d = record { straights = ap (λ b. (cond b (counts 0 1) (counts 1 0)).straight) d; diagonals = ap (λ b. (cond b (counts 0 1) (counts 1 0)).diagonal) d }

pub straight : (h : Heading) → diagonal h ≡ false → Count 1 0 h
straight h d = record { straights = ap (λ b. (cond b (counts 0 1) (counts 1 0)).straight) d; diagonals = ap (λ b. (cond b (counts 0 1) (counts 1 0)).diagonal) d }

abbrev pub NoDearer : List Heading → List Heading → Type 0
NoDearer hs gs = Dominates (tally hs) (tally gs)

-- What falls with each exchange: twice the weight, a straight step weighing 2 and a diagonal one 3, and one more for a straight first step.
abbrev measure : Heading → List Heading → ℕ
measure h gs = 2 * (2 * (tally (h ∷ gs)).straight + 3 * (tally (h ∷ gs)).diagonal) + (one h).straight

module _ (free : Point → Bool) where
  -- After the step h from x, which headings go on.
  pub data Goes (x : Point) (h : Heading) : Heading → Type 0 where
    on : Goes x h h
    veer : (s : Side) → diagonal h ≡ true → Goes x h (turn s h)
    bend : (s : Side) → diagonal h ≡ false → stop free x h s ≡ true → Goes x h (turn s h)
    wheel : (s : Side) → diagonal h ≡ false → stop free x h s ≡ true → Goes x h (turn s (turn s h))

  -- The headings gs go on, one after the other, after the step h from x.
  abbrev pub After : Point → Heading → List Heading → Type 0
  After x h [] = Unit {0}
  After x h (g ∷ gs) = Goes x h g × After (step h x) g gs

  abbrev pub Pruned : Point → List Heading → Type 0
  Pruned x [] = Unit {0}
  Pruned x (h ∷ hs) = After x h hs

  -- The headings hs are a legal pruned route from x to t.
  pub record Good (x t : Point) (hs : List Heading) : Type 0 where
    pub walks : Walk legal free x hs
    pub pruned : Pruned x hs
    pub ends : end x hs ≡ t

  -- A legal pruned route from x to t, no dearer than gs.
  pub record Better (x t : Point) (gs : List Heading) : Type 0 where
    pub route : List Heading
    pub good : Good x t route
    pub bound : NoDearer route gs

  loosen : (x : Point) (h : Heading) (gs : List Heading) → After x h gs → Pruned (step h x) gs
  loosen x h [] a = tt
  loosen x h (g ∷ gs) a = a.1

  rest : {x t : Point} {h : Heading} {gs : List Heading} → Good x t (h ∷ gs) → Good (step h x) t gs
  rest {x} {t} {h} {gs} r = record { walks = r.walks.1; pruned = loosen x h gs r.pruned; ends = r.ends }

  weaken : {x t : Point} {gs ks : List Heading} → Better x t gs → NoDearer gs ks → Better x t ks
  weaken {x} {t} {gs} {ks} b w =
      record { route = b.route; good = b.good; bound = record { fewer = omega (arith, b.bound.fewer, w.fewer); shorter = omega (arith, b.bound.shorter, w.shorter) } }

  keep : {x t : Point} {h g : Heading} {gs : List Heading} → legal free x h ≡ true → Goes x h g → Good (step h x) t (g ∷ gs) → Better x t (h ∷ g ∷ gs)
  keep {h = h} {g = g} {gs = gs} l o r =
      record { route = h ∷ g ∷ gs; good = record { walks = (l, r.walks); pruned = (o, r.pruned); ends = r.ends }; bound = record { fewer = omega arith; shorter = omega arith } }

  -- A step put before a pruned route, for all that measure less than n.
  abbrev Prepends : ℕ → Type 0
  Prepends n = (x t : Point) (h : Heading) (gs : List Heading) → measure h gs < n → legal free x h ≡ true → Good (step h x) t gs → Better x t (h ∷ gs)

  -- a straight step is legal between open cells
  straight_legal : (x : Point) (h : Heading) → diagonal h ≡ false → free x ≡ true → free (step h x) ≡ true → legal free x h ≡ true
  straight_legal x h d here there = legal_from free x h (record { here = here; there = there; sides = λ e. absurd (both_ways _ d e) })

  -- The diagonal step beside h is legal at x if the cell beside x is open.
  corner : (x : Point) (h : Heading) (a : Side) → diagonal h ≡ false → Legal free x h → free (step (turn a (turn a h)) x) ≡ true →
      free (step (turn a (turn a h)) (step h x)) ≡ true → legal free x (turn a h) ≡ true
  corner x h a d l o g =
      legal_from free x (turn a h) (record {
        here = l.here;
        there = subst (λ y. free y ≡ true) (sym (beside a h x d)) g;
        sides = λ e. both_sides a (λ b. free (step (turn b (turn a h)) x) ≡ true) o (subst (λ k. free (step k x) ≡ true) (sym (turn_forth a h)) l.there);
      })

  pub stop_if : (x : Point) (h : Heading) (s : Side) → free (step (turn s (turn s h)) x) ≡ false → free (step (turn s (turn s h)) (step h x)) ≡ true → stop free x h s ≡ true
  unfolding stop
  stop_if x h s shut gap = and_from _ _ (ap not shut) gap

  module _ (n : ℕ) (rec : Prepends n) (x t : Point) (h : Heading) (gs : List Heading) where
    -- One step k in place of h and g.
    one_for_two : {g : Heading} (k : Heading) → step g (step h x) ≡ step k x → legal free x k ≡ true → Good (step h x) t (g ∷ gs) → measure k gs < n →
        NoDearer (k ∷ gs) (h ∷ g ∷ gs) → Better x t (h ∷ g ∷ gs)
    one_for_two k e l r small w = weaken (rec x t k gs small l (subst (λ y. Good y t gs) e (rest r))) w

    -- Two steps k and m in place of h and g: first m is put before the rest, then k before that.
    two_for_two : {g : Heading} (k m : Heading) → step g (step h x) ≡ step m (step k x) → legal free x k ≡ true → legal free (step k x) m ≡ true →
        Good (step h x) t (g ∷ gs) → measure m gs < n → ((fs : List Heading) → NoDearer fs (m ∷ gs) → (measure k fs < n) × NoDearer (k ∷ fs) (h ∷ g ∷ gs)) →
        Better x t (h ∷ g ∷ gs)
    two_for_two {g} k m e l₁ l₂ r small w =
        let b : Better (step k x) t (m ∷ gs) = rec (step k x) t m gs small l₂ (subst (λ y. Good y t gs) e (rest r)) in
        weaken (rec x t k b.route (w b.route b.bound).0 l₁ b.good) (w b.route b.bound).1

    -- There and back: nothing.
    back : Good (step h x) t (opposite h ∷ gs) → Better x t (h ∷ opposite h ∷ gs)
    back r = record { route = gs; good = subst (λ y. Good y t gs) (undo h x) (rest r); bound = record { fewer = omega arith; shorter = omega arith } }

    module _ (a : Side) where
      -- A diagonal step, then a straight one three turns off: the straight step beside the first.
      diagonal_3 : diagonal h ≡ true → measure h (turn a (turn a (turn a h)) ∷ gs) < suc n → Legal free x h →
          Good (step h x) t (turn a (turn a (turn a h)) ∷ gs) → Better x t (h ∷ turn a (turn a (turn a h)) ∷ gs)
      diagonal_3 d small l r =
          let d₁ : diagonal (turn a h) ≡ false = beside_diagonal a h d in
          let c : Count 0 1 h = slanted h d in
          let c₁ : Count 1 0 (turn a h) = straight (turn a h) d₁ in
          one_for_two (turn a h) (diagonal_by3 a h x d) (straight_legal x (turn a h) d₁ l.here (l.sides d a)) r
          (omega arith) (record { fewer = omega arith; shorter = omega arith })

      -- A diagonal step, then one two turns off: two straight steps between them.
      diagonal_2 : diagonal h ≡ true → measure h (turn a (turn a h) ∷ gs) < suc n → Legal free x h →
          Good (step h x) t (turn a (turn a h) ∷ gs) → Better x t (h ∷ turn a (turn a h) ∷ gs)
      diagonal_2 d small l r =
          let d₁ : diagonal (turn a h) ≡ false = beside_diagonal a h d in
          let c : Count 0 1 h = slanted h d in
          let c₁ : Count 1 0 (turn a h) = straight (turn a h) d₁ in
          let c₂ : Count 0 1 (turn a (turn a h)) = slanted (turn a (turn a h)) (beside_straight a (turn a h) d₁) in
          let e : step (turn a (turn a h)) (step h x) ≡ step (turn a h) (step (turn a h) x) = diagonal_by2 a h x d in
          two_for_two (turn a h) (turn a h) e (straight_legal x (turn a h) d₁ l.here (l.sides d a))
          (straight_legal (step (turn a h) x) (turn a h) d₁ (l.sides d a) (subst (λ y. free y ≡ true) e (legal_parts free (step h x) (turn a (turn a h)) r.walks.0).there)) r
          (omega arith) (λ fs w. (omega arith, record { fewer = omega arith; shorter = omega arith }))

      -- A straight step, then a diagonal one three turns off: the straight step two turns off.
      straight_3 : diagonal h ≡ false → measure h (turn a (turn a (turn a h)) ∷ gs) < suc n → Legal free x h →
          Good (step h x) t (turn a (turn a (turn a h)) ∷ gs) → Better x t (h ∷ turn a (turn a (turn a h)) ∷ gs)
      straight_3 d small l r =
          let d₂ : diagonal (turn a (turn a h)) ≡ false = beside_diagonal a (turn a h) (beside_straight a h d) in
          let c : Count 1 0 h = straight h d in
          let c₂ : Count 1 0 (turn a (turn a h)) = straight (turn a (turn a h)) d₂ in
          let c₃ : Count 0 1 (turn a (turn a (turn a h))) = slanted (turn a (turn a (turn a h))) (beside_straight a (turn a (turn a h)) d₂) in
          let e : step (turn a (turn a (turn a h))) (step h x) ≡ step (turn a (turn a h)) x = straight_by3 a h x d in
          one_for_two (turn a (turn a h)) e (straight_legal x (turn a (turn a h)) d₂ l.here (subst (λ y. free y ≡ true) e (legal_parts free (step h x) (turn a (turn a (turn a h))) r.walks.0).there)) r
          (omega arith) (record { fewer = omega arith; shorter = omega arith })

      -- A straight step, then one two turns off past no corner: the diagonal step between.
      straight_2 : diagonal h ≡ false → free (step (turn a (turn a h)) x) ≡ true → measure h (turn a (turn a h) ∷ gs) < suc n → Legal free x h →
          Good (step h x) t (turn a (turn a h) ∷ gs) → Better x t (h ∷ turn a (turn a h) ∷ gs)
      straight_2 d o small l r =
          let d₁ : diagonal (turn a h) ≡ true = beside_straight a h d in
          let c : Count 1 0 h = straight h d in
          let c₁ : Count 0 1 (turn a h) = slanted (turn a h) d₁ in
          let c₂ : Count 1 0 (turn a (turn a h)) = straight (turn a (turn a h)) (beside_diagonal a (turn a h) d₁) in
          one_for_two (turn a h) (sym (beside a h x d)) (corner x h a d l o (legal_parts free (step h x) (turn a (turn a h)) r.walks.0).there) r
          (omega arith) (record { fewer = omega arith; shorter = omega arith })

      -- A straight step, then the diagonal one beside it past no corner: the two in the other order.
      straight_1 : diagonal h ≡ false → free (step (turn a (turn a h)) x) ≡ true → measure h (turn a h ∷ gs) < suc n → Legal free x h →
          Good (step h x) t (turn a h ∷ gs) → Better x t (h ∷ turn a h ∷ gs)
      straight_1 d o small l r =
          let d₁ : diagonal (turn a h) ≡ true = beside_straight a h d in
          let c : Count 1 0 h = straight h d in
          let c₁ : Count 0 1 (turn a h) = slanted (turn a h) d₁ in
          let e : step (turn a h) (step h x) ≡ step h (step (turn a h) x) = swap (turn a h) h x in
          let l₁ : legal free x (turn a h) ≡ true = corner x h a d l o ((legal_parts free (step h x) (turn a h) r.walks.0).sides d₁ a) in
          two_for_two (turn a h) h e l₁ (straight_legal (step (turn a h) x) h d (legal_parts free x (turn a h) l₁).there (subst (λ y. free y ≡ true) e (legal_parts free (step h x) (turn a h) r.walks.0).there)) r
          (omega arith) (λ fs w. (omega arith, record { fewer = omega arith; shorter = omega arith }))

  -- What is done where two steps meet, by how the second is turned.
  junction : (n : ℕ) → Prepends n → (x t : Point) (h g : Heading) (gs : List Heading) → Turned h g → measure h (g ∷ gs) < suc n → legal free x h ≡ true →
      Good (step h x) t (g ∷ gs) → Better x t (h ∷ g ∷ gs)
  junction n rec x t h g gs ahead small l r = keep l on r
  junction n rec x t h g gs behind small l r = back n rec x t h gs r
  junction n rec x t h g gs (by1 a) small l r =
      elim (cases_Bool (diagonal h)) [
        | inl d ↦ keep l (veer a d) r
        | inr d ↦ elim (cases_Bool (free (step (turn a (turn a h)) x))) [
          | inl o ↦ straight_1 n rec x t h gs a d o small (legal_parts free x h l) r
          | inr z ↦ keep l (bend a d (stop_if x h a z ((legal_parts free (step h x) (turn a h) r.walks.0).sides (beside_straight a h d) a))) r
        ]
      ]
  junction n rec x t h g gs (by2 a) small l r =
      elim (cases_Bool (diagonal h)) [
        | inl d ↦ diagonal_2 n rec x t h gs a d small (legal_parts free x h l) r
        | inr d ↦ elim (cases_Bool (free (step (turn a (turn a h)) x))) [
          | inl o ↦ straight_2 n rec x t h gs a d o small (legal_parts free x h l) r
          | inr z ↦ keep l (wheel a d (stop_if x h a z (legal_parts free (step h x) (turn a (turn a h)) r.walks.0).there)) r
        ]
      ]
  junction n rec x t h g gs (by3 a) small l r =
      elim (cases_Bool (diagonal h)) [
        | inl d ↦ diagonal_3 n rec x t h gs a d small (legal_parts free x h l) r
        | inr d ↦ straight_3 n rec x t h gs a d small (legal_parts free x h l) r
      ]

  prepend : (n : ℕ) → Prepends n
  prepend zero x t h gs small l r = absurd (not-suc-le-zero small)
  prepend (suc n) x t h [] small l r =
      record { route = h ∷ []; good = record { walks = (l, tt); pruned = tt; ends = r.ends }; bound = record { fewer = omega arith; shorter = omega arith } }
  prepend (suc n) x t h (g ∷ gs) small l r = junction n (prepend n) x t h g gs (turned h g) small l r

  -- Each legal route has a legal pruned route that is no dearer.
  pub prune : (x : Point) (hs : List Heading) → Walk legal free x hs → Better x (end x hs) hs
  prune x [] w = record { route = []; good = record { walks = tt; pruned = tt; ends = refl }; bound = record { fewer = omega arith; shorter = omega arith } }
  prune x (h ∷ hs) w =
      let b : Better (step h x) (end (step h x) hs) hs = prune (step h x) hs w.1 in
      let k : NoDearer b.route hs = b.bound in
      weaken (prepend (suc (measure h b.route)) x (end (step h x) hs) h b.route (omega arith) w.0 b.good) (record { fewer = omega arith; shorter = omega arith })
