-- Idea: of a signed difference, by its sign, one of the two truncated differences is its size and the other is 0.
use Rattle.std.proofs.Common.{◌≡◌, ℕ, suc, ◌+◌, ◌-◌, ◌*◌, Bool, true, false, ℤ, pos, negsuc, ◌-ℤ◌, nat_abs, sym, ap, subst, arith, w64, to_z, of_z}
use lib.Signed.{lt_z}
use Rattle.std.proofs.lemmas.Int.{ints}
use Rattle.std.proofs.lemmas.Bool.{le-ltb}
use Rattle.floor.specs.declared.Counts.{Counts}
use Rattle.rate.specs.Exact.{squared, compared, excess}
use Rattle.rate.proofs.Weighed.{at}
use Rattle.rates.specs.Signs.{by_signs, balance}

-- the squares of what either has more than the other, where the square of their difference is p, by its sign
abbrev Split : Bool → ℕ → ℕ → ℕ → Type 0
Split false p more less = (more ≡ p) × (less ≡ 0)
Split true p more less = (more ≡ 0) × (less ≡ p)

split : (z : ℤ) (x y : ℕ) → z ≡ pos x -ℤ pos y → Split (lt_z z (pos 0)) (squared (nat_abs z)) (squared (x - y)) (squared (y - x))
split (pos n) x y e =
    let more : x - y ≡ n = omega (arith, ints) in
    let less : y - x ≡ 0 = omega (arith, ints) in
    let P : Bool → Type 0 = λ b. Split b (squared n) (squared (x - y)) (squared (y - x)) in
    subst P (sym (le-ltb n 0 (omega arith))) (ap squared more, ap squared less)
split (negsuc n) x y e =
    let more : y - x ≡ suc n = omega (arith, ints) in
    let less : x - y ≡ 0 = omega (arith, ints) in
    (ap squared less, ap squared more)

joined : (a b : Bool) (p q s t u v : ℕ) → Split a p s t → Split b q u v → by_signs a b p (2 * q) ≡ compared (s + 2 * u) (t + 2 * v)
joined false false p q s t u v h k = let m : p + 2 * q ≡ s + 2 * u = omega arith in let l : 0 ≡ t + 2 * v = omega arith in at m l
joined false true p q s t u v h k = let m : p ≡ s + 2 * u = omega arith in let l : 2 * q ≡ t + 2 * v = omega arith in at m l
joined true false p q s t u v h k = let m : 2 * q ≡ s + 2 * u = omega arith in let l : p ≡ t + 2 * v = omega arith in at m l
joined true true p q s t u v h k = let m : 0 ≡ s + 2 * u = omega arith in let l : p + 2 * q ≡ t + 2 * v = omega arith in at m l

-- the balance of the differences of x and y is what each has in excess, compared
pub balanced : (x y : Counts) (s d : ℤ) → s ≡ pos x.straight -ℤ pos y.straight → d ≡ pos x.diagonal -ℤ pos y.diagonal → balance s d ≡ compared (excess x y) (excess y x)
balanced x y s d e f =
    joined (lt_z s (pos 0)) (lt_z d (pos 0)) (squared (nat_abs s)) (squared (nat_abs d)) _ _ _ _
    (split s x.straight y.straight e) (split d x.diagonal y.diagonal f)

-- the difference of two 64-bit numbers, as a program has it
abbrev pub difference : ℤ → ℤ → ℤ
difference x y = to_z w64 (of_z w64 (to_z w64 (of_z w64 x) -ℤ to_z w64 (of_z w64 y)))
