-- Idea: for counts within the limit one pair near √2 serves, so the exact rate is an order by weights, and lawful as such.
-- A fraction between two lengths is found from that pair; from any fraction, a pair large enough gives the order back.
use Rattle.std.proofs.Common.{◌≡◌, ℕ, ◌+◌, ◌-◌, ◌*◌, ◌<◌, ◌≤◌, sym, refl, ◌∙◌, subst, inl, inr, arith}
use mathlib.Core.Path.{fun_ext}
use Rattle.std.proofs.lemmas.Nat.{mul-le, mul-lt}
use Rattle.std.proofs.lemmas.Bool.{cases_lt}
use Rattle.floor.specs.declared.Counts.{Counts}
use Rattle.rate.specs.declared.Comparison.TheVariants.{Cheaper}
use Rattle.rate.specs.Laws.{Within, capped, Lawful}
use Rattle.rate.specs.Exact.{squared, compared, excess, exact, Covers, Between, OrderedByLength}
use Rattle.rate.specs.Counter.{counter}
use Rattle.rate.proofs.Weighed.{is_cheaper, cheaper_is, capped_within, weight, weighed, weighed_lawful}
use Rattle.rate.proofs.Roots.{Near, near, rest_of, under, over, by_weight}

-- 1,607,521² + 1 = 2 × 1,136,689²
pair : Near 1607521 1136689
pair = refl

exact_weighed : exact ≡ weighed 1136689 1607521
exact_weighed = fun_ext (λ x. fun_ext (λ y. by_weight 1607521 1136689 pair (capped x) (capped y) (omega arith) (omega arith)))

pub exact_lawful : Lawful exact
exact_lawful = subst Lawful (sym exact_weighed) (weighed_lawful 1136689 1607521 (omega arith) (omega arith) (omega arith))

pub counter_lawful : Lawful counter
counter_lawful = weighed_lawful 5 7 (omega arith) (omega arith) (omega arith)

-- the fraction a + b × 2n ÷ m, a little above a + b√2
between : (x y : Counts) → Within x → Within y → weight 1136689 1607521 x < weight 1136689 1607521 y → Between x y
between x y w v h =
    let m = 1607521 * x.straight + 2273378 * x.diagonal in
    let side : m - 1607521 * x.straight ≡ 2273378 * x.diagonal = omega arith in (
      m,
      1607521,
      (omega arith, subst (λ (z : ℕ). 2 * squared (1607521 * x.diagonal) ≤ squared z) (sym side) (omega arith)),
      λ c. let far = over 1607521 1136689 pair (m - 1607521 * y.straight) (1607521 * y.diagonal) c.1 in absurd (omega arith),
    )

-- what covers x and not y, at any pair near √2 that is large enough
weighs_less : (m n p s : ℕ) (x y : Counts) → Near m n → s * y.diagonal < n → Covers p s x → (Covers p s y → ⊥) → weight n m x < weight n m y
weighs_less m n p s x y e large c d =
    let k = n * x.straight + m * x.diagonal in
    let l = n * y.straight + m * y.diagonal in
    let covered = over m n e (p - s * x.straight) (s * x.diagonal) c.1 in
    let whole : n * p ≡ n * (s * x.straight) + n * (p - s * x.straight) = rest_of n (s * x.straight) p c.0 in
    let short : n * p < s * l = elim (cases_lt p (s * y.straight)) [
      | inl less ↦ let f = mul-lt 0 0 n 1 (omega arith) (omega arith) in let g = mul-le n (p + 1) n (s * y.straight) (omega arith) (omega arith) in omega arith
      | inr more ↦ elim (cases_lt (squared (p - s * y.straight)) (2 * squared (s * y.diagonal))) [
        | inl less ↦ let g = under m n e (p - s * y.straight) (s * y.diagonal) large less in let f = rest_of n (s * y.straight) p more in omega arith
        | inr cover ↦ absurd (d (more, cover))
      ]
    ] in
    elim (cases_lt k l) [ inl less ↦ less | inr more ↦ let g = mul-le s l s k (omega arith) more in absurd (omega arith) ]

back : (x y : Counts) → Between x y → compared (excess x y) (excess y x) ≡ Cheaper
back x y f =
    let found = near (x.diagonal + y.diagonal + f.1 * y.diagonal) in
    let large = found.3 in
    by_weight found.0 found.1 found.2 x y (omega arith) (omega arith)
    ∙ is_cheaper _ _ (weighs_less found.0 found.1 f.0 f.1 x y found.2 (omega arith) f.2 f.3)

-- within the limit nothing is capped
exact_within : (x y : Counts) → Within x → Within y → exact x y ≡ compared (excess x y) (excess y x)
exact_within x y w v = λ i. compared (excess (capped_within x w i) (capped_within y v i)) (excess (capped_within y v i) (capped_within x w i))

pub ordered_by_length : OrderedByLength
ordered_by_length x y w v = (
  λ h. between x y w v (cheaper_is _ _ (sym (by_weight 1607521 1136689 pair x y (omega arith) (omega arith)) ∙ sym (exact_within x y w v) ∙ h)),
  λ f. exact_within x y w v ∙ back x y f,
)
