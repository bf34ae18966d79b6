-- A list of distinct numbers below n has at most n entries: strike out n - 1, and go on below it.
use Rattle.std.proofs.Common.{◌≡◌, ℕ, zero, suc, ◌<◌, ◌≤◌, List, [], ◌∷◌, length, subst, inl, inr, not-suc-le-zero, arith}
use Rattle.std.proofs.lemmas.Bool.{cases_eq}
use Rattle.floor.specs.Routes.{Apart, Distinct}

abbrev pub Below : ℕ → List ℕ → Type 0
Below n [] = Unit {0}
Below n (x ∷ xs) = (x < n) × Below n xs

-- the list after striking out n: all that is used of it
record Struck (n : ℕ) (xs : List ℕ) : Type 0 where
  rest : List ℕ
  distinct : Distinct rest
  below : Below n rest
  apart : (y : ℕ) → Apart y xs → Apart y rest
  most : length xs ≤ suc (length rest)

lower : (n : ℕ) (xs : List ℕ) → Apart n xs → Below (suc n) xs → Below n xs
lower n [] a b = tt
lower n (x ∷ xs) a b = (let ne = a.0 in let lt = b.0 in omega arith, lower n xs a.1 b.1)

apart_cast : {x y : ℕ} (xs : List ℕ) → x ≡ y → Apart x xs → Apart y xs
apart_cast xs e a = subst (λ z. Apart z xs) e a

strike : (n : ℕ) (xs : List ℕ) → Distinct xs → Below (suc n) xs → Struck n xs
strike n [] d b = record { rest = []; distinct = tt; below = tt; apart = λ y a. tt; most = omega arith }
strike n (x ∷ xs) d b = elim (cases_eq x n) [
  | inl e ↦ record { rest = xs; distinct = d.1; below = lower n xs (apart_cast xs e d.0) b.1; apart = λ y a. a.1; most = omega arith }
  | inr e ↦
      let r : Struck n xs = strike n xs d.1 b.1 in
      record {
        rest = x ∷ r.rest;
        distinct = (r.apart x d.0, r.distinct);
        below = (let lt = b.0 in omega (arith, e), r.below);
        apart = λ y a. (a.0, r.apart y a.1);
        most = omega (arith, r.most);
      }
]

pub few_below : (n : ℕ) (xs : List ℕ) → Distinct xs → Below n xs → length xs ≤ n
few_below zero [] d b = omega arith
few_below zero (x ∷ xs) d b = absurd (not-suc-le-zero b.0)
few_below (suc n) xs d b =
    let r : Struck n xs = strike n xs d b in
    let h : length r.rest ≤ n = few_below n r.rest r.distinct r.below in
    omega (arith, r.most)
