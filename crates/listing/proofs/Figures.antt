-- Idea: whether a number covers the counts can be decided and some number does, so there is a least one, and only one.
use Rattle.std.proofs.Common.{◌≡◌, ℕ, zero, suc, ◌+◌, ◌-◌, ◌*◌, ◌<◌, ◌≤◌, ◌⊎◌, None, Ok, Err, Result, sym, ap, subst, inl, inr, arith}
use Rattle.std.proofs.lemmas.Nat.{mul-le}
use Rattle.std.proofs.lemmas.Bool.{cases_lt}
use Rattle.floor.specs.declared.Counts.{Counts}
use Rattle.floor.specs.Tally.{counts}
use Rattle.rate.specs.Laws.{limit}
use Rattle.rate.specs.Exact.{squared, Covers, exact}
use Rattle.rate.proofs.Derived.{apart}
use Rattle.rate.proofs.Lengths.{exact_lawful, ordered_by_length}
use Rattle.listing.specs.declared.millimetres.Refusal.{Refusal}
use Rattle.listing.specs.Millimetres.{refusal, Figure, Measured, OneFigure, NoDearerNoLonger}

-- the least number with P below k, or none there
first : (P : ℕ → Type 0) → ((n : ℕ) → P n ⊎ (P n → ⊥)) → (k : ℕ) → ((m : ℕ) × P m × ((n : ℕ) → P n → m ≤ n)) ⊎ ((n : ℕ) → n < k → P n → ⊥)
first P test zero = inr (λ n h _. omega arith)
first P test (suc k) = elim (first P test k) [
  | inl found ↦ inl found
  | inr none ↦ elim (test k) [
    | inl here ↦ inl (k, here, λ n p. elim (cases_lt n k) [ inl h ↦ absurd (none n h p) | inr h ↦ h ])
    | inr not-here ↦ inr (λ n h p. elim (cases_lt n k) [ inl l ↦ none n l p | inr g ↦ not-here (subst P (let e : n ≡ k = omega arith in e) p) ])
  ]
]

covers_or_not : (s : ℕ) (x : Counts) (m : ℕ) → Covers m s x ⊎ (Covers m s x → ⊥)
covers_or_not s x m = elim (cases_lt m (s * x.straight)) [
  | inl less ↦ inr (λ c. let h = c.0 in omega arith)
  | inr from ↦ elim (cases_lt (squared (m - s * x.straight)) (2 * squared (s * x.diagonal))) [
    | inl less ↦ inr (λ c. let h = c.1 in omega arith)
    | inr far ↦ inl (from, far)
  ]
]

-- each diagonal step taken as two straight ones
pub enough : (s : ℕ) (x : Counts) → Covers (s * x.straight + 2 * (s * x.diagonal)) s x
enough s x =
    let d = s * x.diagonal in
    let rest : s * x.straight + 2 * d - s * x.straight ≡ 2 * d = omega arith in
    (omega arith, subst (λ (z : ℕ). 2 * squared d ≤ squared z) (sym rest) (omega arith))

pub figure : (s : ℕ) (x : Counts) → (m : ℕ) × Figure s x m
figure s x =
    let top = s * x.straight + 2 * (s * x.diagonal) in
    elim (first (λ m. Covers m s x) (covers_or_not s x) (top + 1)) [
      | inl found ↦ (found.0, record { covers = found.1; least = found.2 })
      | inr none ↦ absurd (none top (omega arith) (enough s x))
    ]

pub same_figure : (s : ℕ) (x : Counts) (m n : ℕ) → Figure s x m → Figure s x n → m ≡ n
same_figure s x m n f g =
    let a = f.least n g.covers in
    let b = g.least m f.covers in
    omega arith

pub one_figure : OneFigure
one_figure s x = let f = figure s x in (f.0, f.1, λ n g. same_figure s x n f.0 g f.1)

pub no_dearer_no_longer : NoDearerNoLonger
no_dearer_no_longer s x y m n w v h f g = elim (covers_or_not s x n) [
  | inl covers ↦ f.least n covers
  | inr short ↦ absurd (apart exact exact_lawful y x ((ordered_by_length y x v w).1 (n, s, g.covers, short)) h)
]

-- what is measured is the figure, where nothing is refused
pub measured_figure : (s : ℕ) (x : Counts) (r : Result ℕ Refusal) (m : ℕ) → refusal s x ≡ None → Figure s x m → Measured s x r → r ≡ Ok m
measured_figure s x (Ok n) m e f h = ap Ok (same_figure s x n m h.1 f)
measured_figure s x (Err e') m e f h = cc

-- 2,828² < 2 × 2,000² ≤ 2,829²
pub two_diagonals : Figure 1000 (counts 0 2) 2829
two_diagonals = record {
  covers = (omega arith, omega arith);
  least = λ n c. elim (cases_lt (n - 0) 2829) [
    | inl less ↦ let m = mul-le (n - 0) (n - 0) 2828 2828 (omega arith) (omega arith) in let h = c.1 in absurd (omega arith)
    | inr more ↦ omega arith
  ];
}

-- twice this fits 64 bits
pub small_square : (s d : ℕ) → s ≤ 2000 → d ≤ limit → squared (s * d) ≤ squared (2000 * limit)
small_square s d h k = let one = mul-le s d 2000 limit h k in mul-le (s * d) (s * d) (2000 * limit) (2000 * limit) one one
