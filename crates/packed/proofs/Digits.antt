-- The bits of what words are made of: each law of digits, by halving, gives the law of bits.
use Rattle.std.proofs.Common.{◌≡◌, ℕ, zero, suc, ◌+◌, ◌-◌, ◌*◌, ◌/◌, ◌%◌, ◌^◌, ◌<◌, ◌≤◌, min, max, Bool, true, false, cond, not, ◌&&◌, ◌||◌, eqb, ltb, leb, sym, refl, ap, ◌∙◌, subst, inl, inr, mul_assoc, pow-suc, div-one, one-add, arith, pow_mono}
use native.Mathlib.Nat.{div-eq_of_lt}
use Rattle.std.proofs.Math.Bool.{or-false}
use lib.Bits.{bit_and, bit_or, and_step, or_step}
use lib.Count.{count_trailing_zeros, count_leading_zeros, under}
use Rattle.std.proofs.lemmas.Nat.{and_mask, pow_pos, pow-add, shr-shr, shl-shr, mod-mul-add, and_shr, or_shr, field_of, mod-pow-add, mod_below, div_below, le-div, leading_top}
use Rattle.std.proofs.lemmas.Bool.{eq-eqb, ne_eqb, lt-ltb, le-ltb, lt-leb, le-leb, cases_lt, cases_order}
use Rattle.packed.specs.Bits.{bit, previous}
use Rattle.packed.specs.declared.words.Way.TheVariants.{Forward, Backward}

-- ---- digits

abbrev digit : ℕ → ℕ → ℕ
digit n i = n / 2 ^ i % 2

two : (n i : ℕ) → digit n i < 2
two n i = mod_below (n / 2 ^ i) 2 (omega arith)

digit_zero : (n : ℕ) → digit n 0 ≡ n % 2
digit_zero n = ap (λ x. x % 2) (div-one n)

digit_suc : (n i : ℕ) → digit n (suc i) ≡ digit (n / 2) i
digit_suc n i = ap (λ x. x % 2) (ap (λ e. n / 2 ^ e) (sym (one-add i)) ∙ sym (shr-shr n 1 i))

digit_and : (a b i : ℕ) → digit (bit_and a b) i ≡ min (digit a i) (digit b i)
digit_and a b i =
    let x = a / 2 ^ i in
    let y = b / 2 ^ i in
    let p = mod_below x 2 (omega arith) in
    let q = mod_below y 2 (omega arith) in
    ap (λ z. z % 2) (and_shr a b i ∙ and_step x y) ∙ mod-mul-add (bit_and (x / 2) (y / 2)) 2 (min (x % 2) (y % 2)) (omega arith)

digit_or : (a b i : ℕ) → digit (bit_or a b) i ≡ max (digit a i) (digit b i)
digit_or a b i =
    let x = a / 2 ^ i in
    let y = b / 2 ^ i in
    let p = mod_below x 2 (omega arith) in
    let q = mod_below y 2 (omega arith) in
    ap (λ z. z % 2) (or_shr a b i ∙ or_step x y) ∙ mod-mul-add (bit_or (x / 2) (y / 2)) 2 (max (x % 2) (y % 2)) (omega arith)

digit_mod : (n k i : ℕ) → i < k → digit (n % 2 ^ k) i ≡ digit n i
digit_mod n k i h =
    let m = k - (i + 1) in
    let e : (m + 1) + i ≡ k = omega arith in
    let x = n / 2 ^ i in
    ap (λ z. z % 2) (ap (λ j. n % 2 ^ j / 2 ^ i) (sym e) ∙ field_of n (m + 1) i)
    ∙ ap (λ z. z % 2) (mod-pow-add x m 1) ∙ mod-mul-add (x / 2 % 2 ^ m) 2 (x % 2) (mod_below x 2 (omega arith))

flip_half : (k b : ℕ) → b < 2 ^ suc k → ((2 ^ suc k - 1 - b) / 2 ≡ 2 ^ k - 1 - b / 2) × ((2 ^ suc k - 1 - b) % 2 ≡ 1 - b % 2)
flip_half k b h = let e = pow-suc 2 k in let p = pow_pos k in (omega arith, omega arith)

digit_not : (i k b : ℕ) → i < k → b < 2 ^ k → digit (2 ^ k - 1 - b) i ≡ 1 - digit b i
digit_not zero zero b h l = absurd (omega arith)
digit_not (suc i) zero b h l = absurd (omega arith)
digit_not zero (suc k) b h l = digit_zero (2 ^ suc k - 1 - b) ∙ (flip_half k b l).1 ∙ ap (λ x. 1 - x) (sym (digit_zero b))
digit_not (suc i) (suc k) b h l =
    let e = pow-suc 2 k in
    digit_suc (2 ^ suc k - 1 - b) i ∙ ap (λ x. digit x i) (flip_half k b l).0 ∙ digit_not i k (b / 2) (omega arith) (omega arith) ∙ ap (λ x. 1 - x) (sym (digit_suc b i))

digit_high : (n i : ℕ) → n < 2 ^ i → digit n i ≡ 0
digit_high n i l = ap (λ x. x % 2) (div-eq_of_lt l)

-- ---- bits

both : (x y : ℕ) → x < 2 → y < 2 → eqb (min x y) 1 ≡ (eqb x 1 && eqb y 1)
both zero zero p q = refl
both zero (suc zero) p q = refl
both (suc zero) zero p q = refl
both (suc zero) (suc zero) p q = refl
both zero (suc (suc y)) p q = absurd (omega arith)
both (suc zero) (suc (suc y)) p q = absurd (omega arith)
both (suc (suc x)) y p q = absurd (omega arith)

either : (x y : ℕ) → x < 2 → y < 2 → eqb (max x y) 1 ≡ (eqb x 1 || eqb y 1)
either zero zero p q = refl
either zero (suc zero) p q = refl
either (suc zero) zero p q = refl
either (suc zero) (suc zero) p q = refl
either zero (suc (suc y)) p q = absurd (omega arith)
either (suc zero) (suc (suc y)) p q = absurd (omega arith)
either (suc (suc x)) y p q = absurd (omega arith)

other : (x : ℕ) → x < 2 → eqb (1 - x) 1 ≡ not (eqb x 1)
other zero p = refl
other (suc zero) p = refl
other (suc (suc x)) p = absurd (omega arith)

-- equal digits are equal bits
as_bit : (m i n j : ℕ) → digit m i ≡ digit n j → bit m i ≡ bit n j
unfolding bit
as_bit m i n j e = ap (λ d. eqb d 1) e

clear : (n i : ℕ) → digit n i ≡ 0 → bit n i ≡ false
unfolding bit
clear n i e = ap (λ d. eqb d 1) e

set : (n i : ℕ) → digit n i ≡ 1 → bit n i ≡ true
unfolding bit
set n i e = ap (λ d. eqb d 1) e

pub bit_of_and : (a b i : ℕ) → bit (bit_and a b) i ≡ (bit a i && bit b i)
unfolding bit
bit_of_and a b i = ap (λ d. eqb d 1) (digit_and a b i) ∙ both (digit a i) (digit b i) (two a i) (two b i)

pub bit_of_or : (a b i : ℕ) → bit (bit_or a b) i ≡ (bit a i || bit b i)
unfolding bit
bit_of_or a b i = ap (λ d. eqb d 1) (digit_or a b i) ∙ either (digit a i) (digit b i) (two a i) (two b i)

pub bit_not : (b i : ℕ) → i < 64 → b < 2 ^ 64 → bit (2 ^ 64 - 1 - b) i ≡ not (bit b i)
unfolding bit
bit_not b i h l = ap (λ d. eqb d 1) (digit_not i 64 b h l) ∙ other (digit b i) (two b i)

pub bit_none : (i : ℕ) → bit 0 i ≡ false
bit_none i = clear 0 i (digit_high 0 i (pow_pos i))

pub bit_all : (i : ℕ) → i < 64 → bit (2 ^ 64 - 1) i ≡ true
bit_all i h = bit_not 0 i h (omega arith) ∙ ap not (bit_none i)

-- a word has no bits past 63
pub bit_past : (n i : ℕ) → n < 2 ^ 64 → 64 ≤ i → bit n i ≡ false
bit_past n i l h = clear n i (digit_high n i (let q : 2 ^ 64 ≤ 2 ^ i = pow_mono h in omega arith))

-- what a word moved down by k holds
pub bit_down : (n k i : ℕ) → bit (n / 2 ^ k) i ≡ bit n (k + i)
bit_down n k i = as_bit _ _ _ _ (ap (λ x. x % 2) (shr-shr n k i))

-- what a word moved up by k holds, from k on and below
pub bit_up : (n k i : ℕ) → k + i < 64 → bit (n * 2 ^ k % 2 ^ 64) (k + i) ≡ bit n i
bit_up n k i h = as_bit _ _ _ _ (digit_mod (n * 2 ^ k) 64 (k + i) h ∙ ap (λ x. x % 2) (sym (shr-shr (n * 2 ^ k) k i) ∙ ap (λ x. x / 2 ^ i) (shl-shr n k)))

even : (n k i : ℕ) → i < k → digit (n * 2 ^ k) i ≡ 0
even n k i h =
    let m = k - (i + 1) in
    let e : (m + 1) + i ≡ k = omega arith in
    let whole : n * 2 ^ k ≡ (n * 2 ^ m * 2) * 2 ^ i = ap (λ j. n * 2 ^ j) (sym e) ∙ ap (λ x. n * x) (pow-add 2 (m + 1) i ∙ ap (λ x. x * 2 ^ i) (pow-add 2 m 1)) ∙ sym (mul_assoc n (2 ^ m * 2) (2 ^ i)) ∙ ap (λ x. x * 2 ^ i) (sym (mul_assoc n (2 ^ m) 2)) in
    ap (λ x. digit x i) whole ∙ ap (λ x. x % 2) (shl-shr (n * 2 ^ m * 2) i) ∙ omega arith

pub bit_up_low : (n k i : ℕ) → i < k → i < 64 → bit (n * 2 ^ k % 2 ^ 64) i ≡ false
bit_up_low n k i b h = clear _ i (digit_mod (n * 2 ^ k) 64 i h ∙ even n k i b)

-- the word of one bit
pub bit_one : (k i : ℕ) → k < 64 → i < 64 → bit (1 * 2 ^ k % 2 ^ 64) i ≡ eqb i k
bit_one k i p h = elim (cases_order i k) [
  | inl e ↦
      let j : k + 0 ≡ i = omega arith in
      subst (λ z. bit (1 * 2 ^ k % 2 ^ 64) z ≡ true) j (bit_up 1 k 0 (omega arith) ∙ set 1 0 refl) ∙ sym (eq-eqb i k e)
  | inr o ↦ elim o [
    | inl b ↦ bit_up_low 1 k i b h ∙ sym (ne_eqb i k (λ e. omega arith))
    | inr b ↦
        let m = i - k in
        let j : k + m ≡ i = omega arith in
        let high : 1 < 2 ^ m = let more : 1 ≤ m = omega arith in let q : 2 ^ 1 ≤ 2 ^ m = pow_mono more in omega arith in
        subst (λ z. bit (1 * 2 ^ k % 2 ^ 64) z ≡ false) j (bit_up 1 k m (omega arith) ∙ clear 1 m (digit_high 1 m high)) ∙ sym (ne_eqb i k (λ e. omega arith))
  ]
]

-- ---- words as the code writes them

pub reads : (w i : ℕ) → eqb (bit_and (w / 2 ^ i) 1) 1 ≡ bit w i
unfolding bit
reads w i = ap (λ d. eqb d 1) (and_mask (w / 2 ^ i) 1)

pub sets : (w k i : ℕ) → k < 64 → i < 64 → bit (bit_or w (1 * 2 ^ k % 2 ^ 64)) i ≡ cond (eqb i k) true (bit w i)
sets w k i p h = bit_of_or w _ i ∙ ap (λ b. bit w i || b) (bit_one k i p h) ∙ pick (bit w i) (eqb i k)
  where
    pick : (b e : Bool) → (b || e) ≡ cond e true b
    pick true true = refl
    pick true false = refl
    pick false true = refl
    pick false false = refl

pub clears : (w k i : ℕ) → k < 64 → i < 64 → bit (bit_and w (2 ^ 64 - 1 - 1 * 2 ^ k % 2 ^ 64)) i ≡ cond (eqb i k) false (bit w i)
clears w k i p h = bit_of_and w _ i ∙ ap (λ b. bit w i && b) (bit_not (1 * 2 ^ k % 2 ^ 64) i h (mod_below (1 * 2 ^ k) (2 ^ 64) (pow_pos 64)) ∙ ap not (bit_one k i p h)) ∙ pick (bit w i) (eqb i k)
  where
    pick : (b e : Bool) → (b && not e) ≡ cond e false b
    pick true true = refl
    pick true false = refl
    pick false true = refl
    pick false false = refl

-- a bit that comes over from another word, and the bits that do not
pub carries_up : (w last : ℕ) → last < 2 ^ 64 → (i : ℕ) → i < 64 → bit (bit_or (w * 2 ^ 1 % 2 ^ 64) (last / 2 ^ 63)) i ≡ previous Forward w last i
carries_up w last l zero h = bit_of_or (w * 2 ^ 1 % 2 ^ 64) (last / 2 ^ 63) 0 ∙ (λ k. bit_up_low w 1 0 (omega arith) h k || bit_down last 63 0 k)
carries_up w last l (suc i) h =
    let j : 1 + i ≡ suc i = omega arith in
    let up : bit (w * 2 ^ 1 % 2 ^ 64) (suc i) ≡ bit w i = subst (λ z. bit (w * 2 ^ 1 % 2 ^ 64) z ≡ bit w i) j (bit_up w 1 i (omega arith)) in
    let none : bit (last / 2 ^ 63) (suc i) ≡ false = bit_down last 63 (suc i) ∙ bit_past last (63 + suc i) l (omega arith) in
    bit_of_or (w * 2 ^ 1 % 2 ^ 64) (last / 2 ^ 63) (suc i) ∙ (λ k. up k || none k) ∙ or-false (bit w i)

pub carries_down : (w last : ℕ) → w < 2 ^ 64 → (i : ℕ) → i < 64 → bit (bit_or (w / 2 ^ 1) (last * 2 ^ 63 % 2 ^ 64)) i ≡ previous Backward w last i
carries_down w last l i h = bit_of_or (w / 2 ^ 1) (last * 2 ^ 63 % 2 ^ 64) i ∙ elim (cases_lt i 63) [
  | inl b ↦
      let next : 1 + i ≡ i + 1 = omega arith in
      (λ k. (bit_down w 1 i ∙ ap (bit w) next) k || bit_up_low last 63 i b h k) ∙ or-false (bit w (i + 1)) ∙ sym (ap (λ t. cond t (bit w (i + 1)) (bit last 0)) (lt-ltb i 63 b))
  | inr b ↦
      let top : 63 + 0 ≡ i = omega arith in
      let over : bit (last * 2 ^ 63 % 2 ^ 64) i ≡ bit last 0 = subst (λ z. bit (last * 2 ^ 63 % 2 ^ 64) z ≡ bit last 0) top (bit_up last 63 0 (omega arith)) in
      (λ k. (bit_down w 1 i ∙ bit_past w (1 + i) l (omega arith)) k || over k) ∙ sym (ap (λ t. cond t (bit w (i + 1)) (bit last 0)) (le-ltb i 63 b))
]

-- the bits from a place on
from_place : (k i : ℕ) → k < 64 → i < 64 → bit ((2 ^ 64 - 1) * 2 ^ k % 2 ^ 64) i ≡ leb k i
from_place k i p h = elim (cases_lt i k) [
  | inl b ↦ bit_up_low (2 ^ 64 - 1) k i b h ∙ sym (lt-leb k i b)
  | inr b ↦
      let j : k + (i - k) ≡ i = omega arith in
      subst (λ z. bit ((2 ^ 64 - 1) * 2 ^ k % 2 ^ 64) z ≡ true) j (bit_up (2 ^ 64 - 1) k (i - k) (omega arith) ∙ bit_all (i - k) (omega arith)) ∙ sym (le-leb k i b)
]

pub after_place : (k i : ℕ) → k < 64 → i < 64 → bit ((2 ^ 64 - 1) * 2 ^ k % 2 ^ 64 * 2 ^ 1 % 2 ^ 64) i ≡ ltb k i
after_place k zero p h = bit_up_low ((2 ^ 64 - 1) * 2 ^ k % 2 ^ 64) 1 0 (omega arith) h ∙ sym (le-ltb k 0 (omega arith))
after_place k (suc i) p h =
    let j : 1 + i ≡ suc i = omega arith in
    subst (λ z. bit ((2 ^ 64 - 1) * 2 ^ k % 2 ^ 64 * 2 ^ 1 % 2 ^ 64) z ≡ leb k i) j (bit_up ((2 ^ 64 - 1) * 2 ^ k % 2 ^ 64) 1 i (omega arith) ∙ from_place k i p (omega arith)) ∙ elim (cases_lt i k) [
      | inl b ↦ lt-leb k i b ∙ sym (le-ltb k (suc i) (omega arith))
      | inr b ↦ le-leb k i b ∙ sym (lt-ltb k (suc i) (omega arith))
    ]

pub before_place : (k i : ℕ) → k < 64 → i < 64 → bit (2 ^ 64 - 1 - (2 ^ 64 - 1) * 2 ^ k % 2 ^ 64) i ≡ ltb i k
before_place k i p h =
    bit_not ((2 ^ 64 - 1) * 2 ^ k % 2 ^ 64) i h (mod_below ((2 ^ 64 - 1) * 2 ^ k) (2 ^ 64) (pow_pos 64)) ∙ ap not (from_place k i p h) ∙ elim (cases_lt i k) [
      | inl b ↦ ap not (lt-leb k i b) ∙ sym (lt-ltb i k b)
      | inr b ↦ ap not (le-leb k i b) ∙ sym (le-ltb i k b)
    ]

-- ---- the lowest bit that is set, and the highest

abbrev Lowest : ℕ → ℕ → ℕ → Type 0
Lowest n t k = (t < k) × (digit n t ≡ 1) × ((j : ℕ) → j < t → digit n j ≡ 0)

lower : (d t k n : ℕ) → n % 2 ≡ d → (d ≡ 0 → Lowest (n / 2) t k) → Lowest n (under d t) (suc k)
lower zero t k n e h =
    let was = h refl in
    (omega arith, digit_suc n t ∙ was.1, below)
  where
    below : (j : ℕ) → j < suc t → digit n j ≡ 0
    below zero l = digit_zero n ∙ e
    below (suc j) l = digit_suc n j ∙ (h refl).2 j (omega arith)
lower (suc d) t k n e h = let m = mod_below n 2 (omega arith) in (omega arith, digit_zero n ∙ omega arith, λ j l. absurd (omega arith))

lowest_digit : (k n : ℕ) → 0 < n → n < 2 ^ k → Lowest n (count_trailing_zeros k n) k
unfolding count_trailing_zeros
lowest_digit zero n p l = absurd (omega arith)
lowest_digit (suc k) n p l = let e = pow-suc 2 k in lower (n % 2) (count_trailing_zeros k (n / 2)) k n refl (λ z. lowest_digit k (n / 2) (omega arith) (omega arith))

pub lowest : (n : ℕ) → 0 < n → n < 2 ^ 64 → (count_trailing_zeros 64 n < 64) × (bit n (count_trailing_zeros 64 n) ≡ true) × ((i : ℕ) → i < count_trailing_zeros 64 n → bit n i ≡ false)
lowest n p l = let low = lowest_digit 64 n p l in (low.0, set n (count_trailing_zeros 64 n) low.1, λ i h. clear n i (low.2 i h))

pub highest : (n : ℕ) → 0 < n → n < 2 ^ 64 → (63 - count_leading_zeros 64 n < 64) × (bit n (63 - count_leading_zeros 64 n) ≡ true) × ((i : ℕ) → 63 - count_leading_zeros 64 n < i → bit n i ≡ false)
highest n p l =
    let top = leading_top 64 n p l in
    let j = top.0 in
    let e : 63 - count_leading_zeros 64 n ≡ j = omega (arith, top.1) in
    let pos = pow_pos j in
    let hi = div_below n (2 ^ j) 2 pos (omega (arith, top.3, pow-suc 2 j)) in
    let lo = le-div 1 n (2 ^ j) pos (omega (arith, top.2)) in
    let one : n / 2 ^ j ≡ 1 = omega arith in (
      omega (arith, top.1),
      ap (bit n) e ∙ set n j (ap (λ x. x % 2) one),
      λ i g. clear n i (digit_high n i (let q : 2 ^ suc j ≤ 2 ^ i = pow_mono (omega arith) in omega (arith, top.3))),
    )
