-- Idea: within the limit an order depends on the differences alone, so what costs at least as much can be added up;
-- many straight steps, many diagonal ones and twice as many straight ones compare as one does, and that is dominance.
use Rattle.std.proofs.Common.{◌≡◌, ℕ, zero, suc, ◌+◌, ◌-◌, ◌*◌, ◌≤◌, min, max, true, ◌⊎◌, sym, refl, ap, ◌∙◌, subst, inl, inr, arith}
use Rattle.std.proofs.lemmas.Bool.{cases_lt, both_ways}
use Rattle.floor.specs.declared.Counts.{Counts}
use Rattle.floor.specs.Tally.{counts, none, plus, steps, blocks, Dominates}
use Rattle.floor.proofs.Walks.{pair}
use Rattle.rate.specs.declared.Comparison.{Comparison}
use Rattle.rate.specs.declared.Comparison.TheVariants.{Cheaper, Same, Dearer}
use Rattle.rate.specs.Laws.{turned, at_least, limit, Within, capped, AtLeast, Lawful}
use Rattle.rate.specs.Facts.{Outdoes, Part, LessThan, Facts}
use Rattle.rate.proofs.Weighed.{within_capped}

-- what is its own reverse is the same
own_reverse : (o : Comparison) → o ≡ turned o → o ≡ Same
own_reverse Cheaper e = cc
own_reverse Same e = refl
own_reverse Dearer e = cc

cheaper_or_not : (o : Comparison) → (o ≡ Cheaper) ⊎ (at_least o ≡ true)
cheaper_or_not Cheaper = inl refl
cheaper_or_not Same = inr refl
cheaper_or_not Dearer = inr refl

-- what x has more than y, and what they have in common
abbrev over : Counts → Counts → Counts
over x y = counts (x.straight - y.straight) (x.diagonal - y.diagonal)

abbrev common : Counts → Counts → Counts
common x y = counts (min x.straight y.straight) (min x.diagonal y.diagonal)

abbrev times : ℕ → Counts → Counts
times k x = counts (k * x.straight) (k * x.diagonal)

module _ (order : Counts → Counts → Comparison) (law : Lawful order) where
  pub itself : (x : Counts) → order x x ≡ Same
  itself x = own_reverse (order x x) (law.turns x x)

  pub decided : (x y : Counts) → LessThan order x y ⊎ AtLeast order x y
  decided x y = cheaper_or_not (order x y)

  pub apart : (x y : Counts) → LessThan order x y → AtLeast order x y → ⊥
  apart x y h k = both_ways (at_least (order x y)) (ap at_least h) k

  pub back : (x y : Counts) → LessThan order x y → AtLeast order y x
  back x y h = ap at_least (law.turns x y ∙ ap turned h)

  pub less_then : (x y z : Counts) → LessThan order x y → AtLeast order z y → LessThan order x z
  less_then x y z h k = elim (decided x z) [ inl l ↦ l | inr g ↦ absurd (apart x y h (law.passes x z y g k)) ]

  pub then_less : (x y z : Counts) → AtLeast order y x → LessThan order y z → LessThan order x z
  then_less x y z h k = elim (decided x z) [ inl l ↦ l | inr g ↦ absurd (apart y z k (law.passes y x z h g)) ]

  pub either : (x y : Counts) → AtLeast order x y ⊎ AtLeast order y x
  either x y = elim (decided x y) [ inl less ↦ inr (back x y less) | inr more ↦ inl more ]

  at : {x y x' y' : Counts} → x ≡ x' → y ≡ y' → order x y ≡ order x' y'
  at e f = λ i. order (e i) (f i)

  -- what they have in common counts for nothing
  without_common : (x y : Counts) → Within x → Within y → order x y ≡ order (over x y) (over y x)
  without_common x y w v =
      at {x = x} {y = y} {x' = plus (over x y) (common x y)} {y' = plus (over y x) (common x y)} (pair (omega arith) (omega arith)) (pair (omega arith) (omega arith))
      ∙ law.shifts (over x y) (over y x) (common x y) (omega arith) (omega arith)

  pub differences : (x y x' y' : Counts) → Within x → Within y → Within x' → Within y' → plus x y' ≡ plus x' y → order x y ≡ order x' y'
  differences x y x' y' w v w' v' e =
      let s = ap (λ (z : Counts). z.straight) e in
      let d = ap (λ (z : Counts). z.diagonal) e in
      without_common x y w v
      ∙ at {x = over x y} {y = over y x} {x' = over x' y'} {y' = over y' x'} (pair (omega arith) (omega arith)) (pair (omega arith) (omega arith))
      ∙ sym (without_common x' y' w' v')

  -- x, y and z with the differences of x to y and of x' to y', one after the other, as near to 0 as can be
  pub sums : (x y x' y' : Counts) → Within (plus x x') → Within (plus y y') → AtLeast order x y → AtLeast order x' y' → AtLeast order (plus x x') (plus y y')
  sums x y x' y' w v h h' =
      let q = counts (max (y.straight - x.straight) (x'.straight - y'.straight)) (max (y.diagonal - x.diagonal) (x'.diagonal - y'.diagonal)) in
      let p = counts (q.straight + x.straight - y.straight) (q.diagonal + x.diagonal - y.diagonal) in
      let r = counts (q.straight + y'.straight - x'.straight) (q.diagonal + y'.diagonal - x'.diagonal) in
      let first : AtLeast order p q = ap at_least (differences p q x y (omega arith) (omega arith) (omega arith) (omega arith) (pair (omega arith) (omega arith))) ∙ h in
      let second : AtLeast order q r = ap at_least (differences q r x' y' (omega arith) (omega arith) (omega arith) (omega arith) (pair (omega arith) (omega arith))) ∙ h' in
      ap at_least (differences (plus x x') (plus y y') p r w v (omega arith) (omega arith) (pair (omega arith) (omega arith))) ∙ law.passes p q r first second

  many : (k : ℕ) (x y : Counts) → Within (times k x) → Within (times k y) → AtLeast order x y → AtLeast order (times k x) (times k y)
  many zero x y w v h = ap at_least (at {x = times 0 x} {y = times 0 y} {x' = none} {y' = none} (pair (omega arith) (omega arith)) (pair (omega arith) (omega arith)) ∙ itself none)
  many (suc k) x y w v h =
      ap at_least (at {x = times (suc k) x} {y = times (suc k) y} {x' = plus x (times k x)} {y' = plus y (times k y)} (pair (omega arith) (omega arith)) (pair (omega arith) (omega arith)))
      ∙ sums x y (times k x) (times k y) (omega arith) (omega arith) h (many k x y (omega arith) (omega arith) h)

  -- where y costs less than x, k times over
  times_over : (k : ℕ) (x y u v : Counts) → LessThan order y x → u ≡ times k x → v ≡ times k y → Within u → Within v → AtLeast order u v
  times_over k x y u v h e f w w' = ap at_least (at e f) ∙ many k x y (subst Within e w) (subst Within f w') (back y x h)

  straights_cost : (k : ℕ) → k ≤ limit → AtLeast order (counts k 0) none
  straights_cost k w = times_over k (counts 1 0) none _ _ law.nothing_straight (pair (omega arith) (omega arith)) (pair (omega arith) (omega arith)) (omega arith) (omega arith)

  diagonals_cost : (k : ℕ) → k ≤ limit → AtLeast order (counts 0 k) (counts k 0)
  diagonals_cost k w = times_over k (counts 0 1) (counts 1 0) _ _ law.straight_diagonal (pair (omega arith) (omega arith)) (pair (omega arith) (omega arith)) (omega arith) (omega arith)

  straight_pairs_cost : (k : ℕ) → 2 * k ≤ limit → AtLeast order (counts (2 * k) 0) (counts 0 k)
  straight_pairs_cost k w = times_over k (counts 2 0) (counts 0 1) _ _ law.diagonal_two (pair (omega arith) (omega arith)) (pair (omega arith) (omega arith)) (omega arith) (omega arith)

  part_within : (x y : Counts) → Within x → Within y → Part x y → AtLeast order y x
  part_within x y w v p =
      let more = over y x in
      let slants = law.passes _ _ _ (diagonals_cost more.diagonal (omega arith)) (straights_cost more.diagonal (omega arith)) in
      let rest = sums (counts more.straight 0) none (counts 0 more.diagonal) none (omega arith) (omega arith) (straights_cost more.straight (omega arith)) slants in
      ap at_least (differences y x (plus (counts more.straight 0) (counts 0 more.diagonal)) none v w (omega arith) (omega arith) (pair (omega arith) (omega arith))) ∙ rest

  pub part : (x y : Counts) → Part x y → AtLeast order y x
  part x y p = ap at_least (law.caps y x) ∙ part_within (capped x) (capped y) (within_capped x) (within_capped y) (record { straights = omega arith; diagonals = omega arith })

  pub longer : (x y : Counts) → AtLeast order (plus x y) x
  longer x y = part x (plus x y) (record { straights = omega arith; diagonals = omega arith })

  pub dominance : (x y : Counts) → Within x → Within y → Dominates x y → AtLeast order y x
  dominance x y w v d = elim (cases_lt y.diagonal x.diagonal) [
    | inl more-diagonal ↦
        let k = x.diagonal - y.diagonal in
        let pairs = law.passes _ _ _ (part (counts (2 * k) 0) (counts (y.straight - x.straight) 0) (record { straights = omega arith; diagonals = omega arith })) (straight_pairs_cost k (omega arith)) in
        ap at_least (differences y x (counts (y.straight - x.straight) 0) (counts 0 k) v w (omega arith) (omega arith) (pair (omega arith) (omega arith))) ∙ pairs
    | inr no-more-diagonal ↦ elim (cases_lt y.straight x.straight) [
      | inl more-straight ↦
          let k = x.straight - y.straight in
          let slants = law.passes _ _ _ (part (counts 0 k) (counts 0 (y.diagonal - x.diagonal)) (record { straights = omega arith; diagonals = omega arith })) (diagonals_cost k (omega arith)) in
          ap at_least (differences y x (counts 0 (y.diagonal - x.diagonal)) (counts k 0) v w (omega arith) (omega arith) (pair (omega arith) (omega arith))) ∙ slants
      | inr no-more-straight ↦ part x y (record { straights = no-more-straight; diagonals = no-more-diagonal })
    ]
  ]

  -- with one straight step more, x without what they have in common still dominates y
  pub outdone : (x y : Counts) → Within x → Within y → Outdoes x y → LessThan order x y
  outdone x y w v d =
      let x₀ = over x y in
      let y₀ = over y x in
      let next = plus x₀ (counts 1 0) in
      let step : LessThan order x₀ next = differences x₀ next none (counts 1 0) (omega arith) (omega arith) (omega arith) (omega arith) (pair (omega arith) (omega arith)) ∙ law.nothing_straight in
      let rest : AtLeast order y₀ next = dominance next y₀ (omega arith) (omega arith) (record { fewer = omega arith; shorter = omega arith }) in
      without_common x y w v ∙ less_then x₀ next y₀ step rest

  pub few_steps : (x y : Counts) → Within x → Within y → AtLeast order y x → steps x ≤ blocks y
  few_steps x y w v h = elim (cases_lt (blocks y) (steps x)) [
    | inl more ↦ absurd (apart y x (outdone y x v w (record { fewer = omega arith; shorter = omega arith })) h)
    | inr few ↦ few
  ]

  pub few_blocks : (x y : Counts) → Within x → Within y → AtLeast order y x → blocks x ≤ 2 * steps y
  few_blocks x y w v h = elim (cases_lt (2 * steps y) (blocks x)) [
    | inl more ↦ absurd (apart y x (outdone y x v w (record { fewer = omega arith; shorter = omega arith })) h)
    | inr few ↦ few
  ]

  pub facts : Facts order
  facts = record {
    itself = itself;
    decided = decided;
    apart = apart;
    back = back;
    either = either;
    less_then = less_then;
    then_less = then_less;
    differences = differences;
    sums = sums;
    part = part;
    longer = longer;
    dominance = dominance;
    outdone = outdone;
    few_steps = few_steps;
    few_blocks = few_blocks;
  }
