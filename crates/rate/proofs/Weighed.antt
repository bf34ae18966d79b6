-- Idea: an order by weights, u for a straight step and v for a diagonal one, keeps every law if u < v < 2u. Both rates are such orders.
use Rattle.std.proofs.Common.{◌≡◌, ℕ, ◌+◌, ◌*◌, ◌<◌, ◌≤◌, min, true, sym, ap, ◌∙◌, arith}
use Rattle.std.proofs.lemmas.Bool.Decides.{nat_tests}
use Rattle.floor.specs.declared.Counts.{Counts}
use Rattle.floor.specs.Tally.{counts, plus}
use Rattle.rate.specs.declared.Comparison.{Comparison}
use Rattle.rate.specs.declared.Comparison.TheVariants.{Cheaper, Same, Dearer}
use Rattle.rate.specs.Laws.{turned, at_least, limit, Within, capped, Lawful}
use Rattle.rate.specs.Exact.{compared}

pub is_cheaper : (p q : ℕ) → p < q → compared p q ≡ Cheaper
is_cheaper p q h = grind (arith, nat_tests)

pub is_same : (p q : ℕ) → p ≡ q → compared p q ≡ Same
is_same p q h = grind (arith, nat_tests)

pub is_dearer : (p q : ℕ) → q < p → compared p q ≡ Dearer
is_dearer p q h = grind (arith, nat_tests)

pub cheaper_is : (p q : ℕ) → compared p q ≡ Cheaper → p < q
cheaper_is p q h = grind (arith, nat_tests)

pub at_least_is : (p q : ℕ) → at_least (compared p q) ≡ true → q ≤ p
at_least_is p q h = grind (arith, nat_tests)

pub is_at_least : (p q : ℕ) → q ≤ p → at_least (compared p q) ≡ true
is_at_least p q h = grind (arith, nat_tests)

pub compared_turned : (p q : ℕ) → compared q p ≡ turned (compared p q)
compared_turned p q = grind (arith, nat_tests)

-- counts within the limit stay as they are
pub capped_within : (x : Counts) → Within x → capped x ≡ x
capped_within x w =
    let p : min x.straight limit ≡ x.straight = omega arith in
    let q : min x.diagonal limit ≡ x.diagonal = omega arith in
    λ i. counts (p i) (q i)

pub within_capped : (x : Counts) → Within (capped x)
within_capped x = omega arith

-- both sides of a comparison at equal numbers
pub at : {p q p' q' : ℕ} → p ≡ p' → q ≡ q' → compared p q ≡ compared p' q'
at e f = λ i. compared (e i) (f i)

pub moved : (p q r : ℕ) → compared (p + r) (q + r) ≡ compared p q
moved p q r = grind (arith, nat_tests)

module _ (u v : ℕ) where
  abbrev pub weight : Counts → ℕ
  weight x = u * x.straight + v * x.diagonal

  -- the order by weight, of the capped counts
  abbrev pub weighed : Counts → Counts → Comparison
  weighed x y = compared (weight (capped x)) (weight (capped y))

  weight_capped : (x z : Counts) → Within (plus x z) → weight (capped (plus x z)) ≡ weight (capped x) + weight z
  weight_capped x z w =
      let a = ap weight (capped_within (plus x z) w) in
      let b = ap weight (capped_within x (omega arith)) in
      omega arith

  pub weighed_lawful : 0 < u → u < v → v < 2 * u → Lawful weighed
  weighed_lawful some more less = record {
    turns = λ x y. compared_turned (weight (capped x)) (weight (capped y));
    passes = λ x y z h k. is_at_least (weight (capped x)) (weight (capped z)) (let p = at_least_is (weight (capped x)) (weight (capped y)) h in let q = at_least_is (weight (capped y)) (weight (capped z)) k in omega arith);
    shifts = λ x y z h k. at (weight_capped x z h) (weight_capped y z k) ∙ moved (weight (capped x)) (weight (capped y)) (weight z);
    nothing_straight = is_cheaper (u * 0 + v * 0) (u * 1 + v * 0) (omega arith);
    straight_diagonal = is_cheaper (u * 1 + v * 0) (u * 0 + v * 1) (omega arith);
    diagonal_two = is_cheaper (u * 0 + v * 1) (u * 2 + v * 0) (omega arith);
    caps = λ x y. sym (at (ap weight (capped_within (capped x) (within_capped x))) (ap weight (capped_within (capped y) (within_capped y))));
  }
