-- How long values in a line are at most.
use Rattle.std.proofs.Common.{ℕ, zero, suc, ◌+◌, ◌*◌, ◌/◌, ◌%◌, ◌^◌, ◌<◌, ◌≤◌, Bool, false, eqb, List, [], ◌∷◌, length, decimal, arith}
use Rattle.std.specs.Fmt.{digit_glyph, digits_onto, digits}
use Rattle.std.proofs.lemmas.Fmt.{length-decimal-le}
use Rattle.std.proofs.lemmas.List.{length-append}
use Rattle.std.proofs.lemmas.Bool.{cond_both}
use Rattle.writing.specs.Values.{value, last_values}

-- numbers of at most i, j and k digits, a space before each, and the line feed
pub length_three_values : (a b c i j k : ℕ) → 0 < i → 0 < j → 0 < k → a < 10 ^ i → b < 10 ^ j → c < 10 ^ k → a < 2 ^ 64 → b < 2 ^ 64 → c < 2 ^ 64 → length (last_values (a ∷ b ∷ c ∷ [])) ≤ i + j + k + 4
unfolding last_values value
length_three_values a b c i j k p q r x y z fa fb fc =
    let one = length-decimal-le i a p x fa in
    let two = length-decimal-le j b q y fb in
    let three = length-decimal-le k c r z fc in
    simp length-append (omega arith)

-- at most 64 digits are ever written
spelled_short : (k base : ℕ) (upper : Bool) (n : ℕ) (more : List ℕ) → length (digits_onto k base upper n more) ≤ k + length more
spelled_short zero base upper n more = omega arith
spelled_short (suc k) base upper n more =
    cond_both (eqb (n / base) 0) (digit_glyph upper (n % base) ∷ more) (digits_onto k base upper (n / base) (digit_glyph upper (n % base) ∷ more)) (λ (text : List ℕ). length text ≤ suc k + length more)
    (λ _. omega arith) (λ _. let rest = spelled_short k base upper (n / base) (digit_glyph upper (n % base) ∷ more) in omega arith)

pub length_any_decimal : (n : ℕ) → length (decimal n) ≤ 64
unfolding digits
length_any_decimal n = let short = spelled_short 64 10 false n [] in omega arith

pub length_any_values : (ns : List ℕ) → length (last_values ns) ≤ 65 * length ns + 1
unfolding last_values value
length_any_values [] = omega arith
length_any_values (n ∷ ns) =
    let one = length_any_decimal n in
    let rest = length_any_values ns in
    simp length-append (omega arith)
