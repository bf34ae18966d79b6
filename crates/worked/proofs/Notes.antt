-- Idea: counts noted at every cell, such that no legal step from a cell does better than what is noted at its end, dominate
-- every route from where nothing is noted. What dominates every route is cheapest under every lawful rate, and nothing else is.
use Rattle.std.proofs.Common.{◌≡◌, ◌+◌, ◌-◌, ◌≤◌, true, ◌⊎◌, List, [], ◌∷◌, ◌∙◌, subst, inl, inr, arith}
use Rattle.std.proofs.lemmas.Bool.{cases_lt}
use Rattle.floor.specs.declared.Cell.{Cell}
use Rattle.floor.specs.declared.Counts.{Counts}
use Rattle.floor.specs.declared.Heading.{Heading}
use Rattle.floor.specs.Tally.{counts, none, plus, steps, blocks, Dominates}
use Rattle.floor.specs.Plane.{Point, point, step}
use Rattle.floor.specs.Plans.{Plan, Sized, opens, legal}
use Rattle.floor.specs.Routes.{end, one, tally, Walk, Laid, Route}
use Rattle.floor.proofs.Legal.{legal_fair}
use Rattle.rate.specs.declared.Comparison.{Comparison}
use Rattle.rate.specs.Laws.{AtLeast, Lawful}
use Rattle.rate.specs.Facts.{LessThan}
use Rattle.rate.proofs.Derived.{facts}
use Rattle.cheapest.specs.Cheapest.{Cheapest}
use Rattle.cheapest.specs.Claims.{longest}
use Rattle.cheapest.proofs.Rivals.{rivals}
use Rattle.worked.specs.Examples.{OnlyCheapest}

alike : {x y : Counts} → x.straight ≡ y.straight → x.diagonal ≡ y.diagonal → x ≡ y
alike a b = λ i. record { straight = a i; diagonal = b i }

-- Counts of few steps that dominate others and cost no less are the same: a diagonal step for a straight one, or two straight ones for a diagonal one, costs more.
module _ (order : Counts → Counts → Comparison) (law : Lawful order) where
  -- z has v where x has u, which is cheaper, and z dominates y
  traded : (x y z u v : Counts) → steps x ≤ longest → steps y ≤ longest → steps z ≤ longest + 1 → steps u ≤ 2 → steps v ≤ 2 →
      LessThan order u v → plus x v ≡ plus u z → Dominates z y → LessThan order x y
  traded x y z u v few-x few-y few-z few-u few-v less trade d =
      (facts order law).less_then x z y
      ((facts order law).differences x z u v (omega arith, omega arith) (omega arith, omega arith) (omega arith, omega arith) (omega arith, omega arith) trade ∙ less)
      ((facts order law).dominance z y (omega arith, omega arith) (omega arith, omega arith) d)

  cheaper_or_same : (x y : Counts) → steps x ≤ longest → steps y ≤ longest → Dominates x y → LessThan order x y ⊎ (y ≡ x)
  cheaper_or_same x y few-x few-y d = elim (cases_lt (steps x) (steps y)) [
    | inl fewer ↦ elim (cases_lt (blocks x) (blocks y)) [
      | inl shorter ↦ inl ((facts order law).outdone x y (omega arith, omega arith) (omega arith, omega arith) (record { fewer = fewer; shorter = shorter }))
      | inr level ↦
          inl (traded x y (counts (x.straight + 2) (x.diagonal - 1)) (counts 0 1) (counts 2 0) few-x few-y (omega arith) (omega arith) (omega arith)
          law.diagonal_two (alike (omega arith) (omega arith)) (record { fewer = omega arith; shorter = omega arith }))
    ]
    | inr level ↦ elim (cases_lt (blocks x) (blocks y)) [
      | inl shorter ↦
          inl (traded x y (counts (x.straight - 1) (x.diagonal + 1)) (counts 1 0) (counts 0 1) few-x few-y (omega arith) (omega arith) (omega arith)
          law.straight_diagonal (alike (omega arith) (omega arith)) (record { fewer = omega arith; shorter = omega arith }))
      | inr as_short ↦ inr (alike (omega arith) (omega arith))
    ]
  ]

  same_by_cost : (x y : Counts) → steps x ≤ longest → steps y ≤ longest → Dominates x y → AtLeast order x y → y ≡ x
  same_by_cost x y few-x few-y d h =
      elim (cheaper_or_same x y few-x few-y d) [ inl less ↦ absurd ((facts order law).apart x y less h) | inr same ↦ same ]

module _ (p : Plan) (noted : Point → Counts) where
  -- no legal step does better than what is noted
  abbrev pub Unbeaten : Type 0
  Unbeaten = (x : Point) (h : Heading) → legal (opens p) x h ≡ true → Dominates (noted (step h x)) (plus (noted x) (one h))

  -- n steps to x, and then these
  dominated : Unbeaten → (x : Point) (hs : List Heading) (n : Counts) → Walk legal (opens p) x hs → Dominates (noted x) n → Dominates (noted (end x hs)) (plus n (tally hs))
  dominated u x [] n w d = record { fewer = omega arith; shorter = omega arith }
  dominated u x (h ∷ hs) n w d =
      let step-on = u x h w.0 in
      let rest = dominated u (step h x) hs (plus n (one h)) w.1 (record { fewer = omega arith; shorter = omega arith }) in
      record { fewer = omega arith; shorter = omega arith }

  every_route : Unbeaten → (s t : Point) → Dominates (noted s) none → (m : Counts) → Laid legal (opens p) s t m → Dominates (noted t) m
  every_route u s t d m r =
      let from-none = dominated u s r.headings none r.walks d in
      let whole : Dominates (noted (end s r.headings)) (tally r.headings) = record { fewer = omega arith; shorter = omega arith } in
      subst (λ (y : Point). Dominates (noted y) m) r.ends (subst (Dominates (noted (end s r.headings))) r.counted whole)

  pub only_cheapest : Unbeaten → Sized p → (s t : Cell) (n : Counts) → Route p s t n → Dominates (noted (point s)) none → Dominates n (noted (point t)) → OnlyCheapest p s t n
  only_cheapest u z s t n r begin top order law =
      let rival = rivals order law legal legal_fair in
      let best : (m : Counts) → Route p s t m → Dominates n m = λ m route.
      let d = every_route u (point s) (point t) begin m route in record { fewer = omega arith; shorter = omega arith } in
      let cheapest : Cheapest order legal p s t n = rival.enough p z s t n r (λ m few route.
      let d = best m route in (facts order law).dominance n m (omega arith, omega arith) (omega arith, omega arith) d) in
      (cheapest, λ m other. same_by_cost order law n m (rival.short p z s t n cheapest) (rival.short p z s t m other) (best m other.route) (other.least n r))
