-- The exact rate: a straight steps and b diagonal ones cost a + b√2.
use Rattle.std.specs.Prelude.{◌≡◌, ℕ, ◌+◌, ◌-◌, ◌*◌, ◌≤◌, cond, nat_lt}
use Rattle.floor.specs.declared.Counts.{Counts}
use Rattle.rate.specs.declared.Comparison.{Comparison}
use Rattle.rate.specs.declared.Comparison.TheVariants.{Cheaper, Same, Dearer}
use Rattle.rate.specs.Laws.{Within, capped}

-- n²
abbrev pub squared : ℕ → ℕ
squared n = n * n

-- the smaller amount is the cheaper one
abbrev pub compared : ℕ → ℕ → Comparison
compared p q = cond (nat_lt p q) Cheaper (cond (nat_lt q p) Dearer Same)

-- What x has more than y of straight steps, and of diagonal ones at √2 each, both squared. A difference stops at 0.
abbrev pub excess : Counts → Counts → ℕ
excess x y = squared (x.straight - y.straight) + 2 * squared (x.diagonal - y.diagonal)

-- a + b√2 beside c + d√2. A side that has more of both kinds is dearer, as the other has no excess; where one has more
-- of one kind and the other more of the other kind, a - c is held against (d - b)√2 by their squares.
abbrev pub exact : Counts → Counts → Comparison
exact x y = compared (excess (capped x) (capped y)) (excess (capped y) (capped x))

-- m is at least s × (a + b√2)
abbrev pub Covers : ℕ → ℕ → Counts → Type 0
Covers m s x = (s * x.straight ≤ m) × (2 * squared (s * x.diagonal) ≤ squared (m - s * x.straight))

-- a fraction m ÷ s lies between x and y: it is at least what x costs, and less than what y costs
abbrev pub Between : Counts → Counts → Type 0
Between x y = (m : ℕ) × (s : ℕ) × Covers m s x × (Covers m s y → ⊥)

-- The exact rate is the order of the numbers a + b√2: x is cheaper than y exactly if a fraction lies between them.
abbrev pub OrderedByLength : Type 0
OrderedByLength = (x y : Counts) → Within x → Within y → (exact x y ≡ Cheaper → Between x y) × (Between x y → exact x y ≡ Cheaper)
