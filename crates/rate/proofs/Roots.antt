-- Idea: where m² + 1 = 2n², m ÷ n lies so close below √2 that p against r√2 is as n × p against m × r, for every r below n.
-- So a + b√2 is compared by the weights n and m, and everything about it is linear.
use Rattle.std.proofs.Common.{◌≡◌, ℕ, zero, suc, ◌+◌, ◌-◌, ◌*◌, ◌<◌, ◌≤◌, sym, refl, ap, ◌∙◌, inl, inr, arith}
use Rattle.std.proofs.lemmas.Nat.{mul-le, mul-lt}
use Rattle.std.proofs.lemmas.Bool.{cases_lt, cases_order}
use Rattle.floor.specs.declared.Counts.{Counts}
use Rattle.rate.specs.Laws.{turned}
use Rattle.rate.specs.Exact.{squared, compared, excess}
use Rattle.rate.proofs.Weighed.{is_cheaper, is_same, is_dearer, compared_turned, at, moved, weight}

-- m ÷ n lies just below √2
abbrev pub Near : ℕ → ℕ → Type 0
Near m n = squared m + 1 ≡ 2 * squared n

-- there is such a pair above any bound
pub near : (k : ℕ) → (m : ℕ) × (n : ℕ) × Near m n × (k < n)
near zero = (1, 1, refl, omega arith)
near (suc k) = let s = near k in (3 * s.0 + 4 * s.1, 2 * s.0 + 3 * s.1, (let e = s.2 in omega arith), omega arith)

less_root : (x y : ℕ) → squared x < squared y → x < y
less_root x y h = elim (cases_lt x y) [ inl l ↦ l | inr g ↦ let m = mul-le y y x x g g in absurd (omega arith) ]

no_more_root : (x y : ℕ) → squared x ≤ squared y → x ≤ y
no_more_root x y h = elim (cases_lt y x) [ inl l ↦ let m = mul-lt y y x x l l in absurd (omega arith) | inr g ↦ g ]

zero_square : (x : ℕ) → x ≡ 0 → squared x ≡ 0
zero_square x e = ap squared e

-- k times the larger is k times the smaller and k times the rest
pub rest_of : (k x y : ℕ) → x ≤ y → k * y ≡ k * x + k * (y - x)
rest_of k x y h = let whole : y ≡ x + (y - x) = omega arith in ap (λ (z : ℕ). k * z) whole ∙ omega arith

module _ (m n : ℕ) (e : Near m n) where
  -- r × (m² + 1) = r × 2n², for the square r of a number
  fit : (r : ℕ) → squared r * (squared m + 1) ≡ squared r * (2 * squared n)
  fit r = ap (λ (x : ℕ). squared r * x) e

  -- p < r√2
  pub under : (p r : ℕ) → r < n → squared p < 2 * squared r → n * p < m * r
  under p r b h =
      let f = fit r in
      let small = mul-lt r r n n b b in
      let scaled : (squared p + 1) * squared n ≤ (2 * squared r) * squared n = mul-le (squared p + 1) (squared n) (2 * squared r) (squared n) (omega arith) (omega arith) in
      less_root (n * p) (m * r) (omega arith)

  -- r√2 ≤ p
  pub over : (p r : ℕ) → 2 * squared r ≤ squared p → m * r ≤ n * p
  over p r h =
      let f = fit r in
      let scaled : (2 * squared r) * squared n ≤ squared p * squared n = mul-le (2 * squared r) (squared n) (squared p) (squared n) h (omega arith) in
      no_more_root (m * r) (n * p) (omega arith)

  -- r√2 < p
  strictly_over : (p r : ℕ) → 0 < n → 2 * squared r < squared p → m * r < n * p
  strictly_over p r b h =
      let f = fit r in
      let some = mul-lt 0 0 n n b b in
      let scaled : (2 * squared r + 1) * squared n ≤ squared p * squared n = mul-le (2 * squared r + 1) (squared n) (squared p) (squared n) (omega arith) (omega arith) in
      less_root (m * r) (n * p) (omega arith)

  -- p = r√2, which happens at 0 alone
  level : (p r : ℕ) → r < n → squared p ≡ 2 * squared r → n * p ≡ m * r
  level p r b h =
      let f = fit r in
      let some = mul-lt 0 0 n n (omega arith) (omega arith) in
      let scaled : squared p * squared n ≡ (2 * squared r) * squared n = ap (λ (x : ℕ). x * squared n) h in
      let low = over p r (omega arith) in
      let wide : n < m + 1 = less_root n (m + 1) (omega arith) in
      let rows = mul-le r r r m (omega arith) (omega arith) in
      elim (cases_lt (m * r) (n * p)) [
        | inl more ↦ let sq : squared (m * r + 1) ≤ squared (n * p) = mul-le (m * r + 1) (m * r + 1) (n * p) (n * p) (omega arith) (omega arith) in absurd (omega arith)
        | inr high ↦ omega arith
      ]

  pub one_kind : (p r : ℕ) → r < n → compared (squared p) (2 * squared r) ≡ compared (n * p) (m * r)
  one_kind p r b = elim (cases_order (squared p) (2 * squared r)) [
    | inl same ↦ is_same (squared p) (2 * squared r) same ∙ sym (is_same (n * p) (m * r) (level p r b same))
    | inr (inl less) ↦ is_cheaper (squared p) (2 * squared r) less ∙ sym (is_cheaper (n * p) (m * r) (under p r b less))
    | inr (inr more) ↦ is_dearer (squared p) (2 * squared r) more ∙ sym (is_dearer (n * p) (m * r) (strictly_over p r (omega arith) more))
  ]

  -- x has no fewer straight steps than y, and more diagonal ones or as many
  both_ahead : (x y : Counts) → 0 < n → y.straight ≤ x.straight → y.diagonal ≤ x.diagonal → compared (excess x y) (excess y x) ≡ compared (weight n m x) (weight n m y)
  both_ahead x y some h k =
      let p = x.straight - y.straight in
      let r = x.diagonal - y.diagonal in
      let s = rest_of n y.straight x.straight h in
      let t = rest_of m y.diagonal x.diagonal k in
      let z = zero_square (y.straight - x.straight) (omega arith) in
      let w = zero_square (y.diagonal - x.diagonal) (omega arith) in
      let wide : 0 < m = less_root 0 m (let q = mul-lt 0 0 n n some some in omega arith) in
      elim (cases_lt 0 p) [
        | inl more ↦
            let a = mul-lt 0 0 p p more more in
            let b = mul-lt 0 0 n p some more in
            is_dearer (excess x y) (excess y x) (omega arith) ∙ sym (is_dearer (weight n m x) (weight n m y) (omega arith))
        | inr as_many ↦ elim (cases_lt 0 r) [
          | inl more ↦
              let a = mul-lt 0 0 r r more more in
              let b = mul-lt 0 0 m r wide more in
              is_dearer (excess x y) (excess y x) (omega arith) ∙ sym (is_dearer (weight n m x) (weight n m y) (omega arith))
          | inr as-few ↦
              let a = zero_square p (omega arith) in
              let b = zero_square r (omega arith) in
              let c : n * p ≡ 0 = ap (λ (q : ℕ). n * q) (let g : p ≡ 0 = omega arith in g) ∙ omega arith in
              let d : m * r ≡ 0 = ap (λ (q : ℕ). m * q) (let g : r ≡ 0 = omega arith in g) ∙ omega arith in
              is_same (excess x y) (excess y x) (omega arith) ∙ sym (is_same (weight n m x) (weight n m y) (omega arith))
        ]
      ]

  -- x has no fewer straight steps than y
  straight_ahead : (x y : Counts) → x.diagonal < n → y.diagonal < n → y.straight ≤ x.straight → compared (excess x y) (excess y x) ≡ compared (weight n m x) (weight n m y)
  straight_ahead x y b d h = elim (cases_lt x.diagonal y.diagonal) [
    | inr more ↦ both_ahead x y (omega arith) h more
    | inl fewer ↦
        let p = x.straight - y.straight in
        let r = y.diagonal - x.diagonal in
        let s = rest_of n y.straight x.straight h in
        let t = rest_of m x.diagonal y.diagonal (omega arith) in
        let z = zero_square (y.straight - x.straight) (omega arith) in
        let w = zero_square (x.diagonal - y.diagonal) (omega arith) in
        let rest = n * y.straight + m * x.diagonal in
        let left : excess x y ≡ squared p = omega arith in
        let right : excess y x ≡ 2 * squared r = omega arith in
        let left-weight : weight n m x ≡ n * p + rest = omega arith in
        let right-weight : weight n m y ≡ m * r + rest = omega arith in
        at left right ∙ one_kind p r (omega arith) ∙ sym (at left-weight right-weight ∙ moved (n * p) (m * r) rest)
  ]

  -- a + b√2 against c + d√2 is as n × a + m × b against n × c + m × d
  pub by_weight : (x y : Counts) → x.diagonal < n → y.diagonal < n → compared (excess x y) (excess y x) ≡ compared (weight n m x) (weight n m y)
  by_weight x y b d = elim (cases_lt x.straight y.straight) [
    | inr more ↦ straight_ahead x y b d more
    | inl fewer ↦ compared_turned (excess y x) (excess x y) ∙ ap turned (straight_ahead y x d b (omega arith)) ∙ sym (compared_turned (weight n m y) (weight n m x))
  ]
