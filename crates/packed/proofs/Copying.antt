-- What a copy of a line shows: the line's own words, and closed places where these end and outside.
use Rattle.std.proofs.Common.{◌≡◌, ℕ, zero, suc, ◌+◌, ◌-◌, ◌*◌, ◌/◌, ◌%◌, ◌^◌, ◌<◌, ◌≤◌, true, false, cond, ◌&&◌, ltb, List, [], ◌∷◌, get_or, sym, refl, ap, ◌∙◌, inl, inr, arith}
use Rattle.std.proofs.lemmas.Bool.{cases_lt, and_from, and_left, and_right, lt-ltb, le-ltb}
use Rattle.packed.specs.declared.halves.Half.{Half}
use Rattle.packed.specs.Bits.{bit}
use Rattle.packed.specs.Layout.{line_words, word_of, shut}
use Rattle.packed.specs.Scans.{seen, line_at}
use Rattle.packed.proofs.Digits.{bit_all}

-- the words of the next line follow
pub line_follows : (h : Half) (l : ℕ) → word_of h (suc l) 0 ≡ word_of h l 0 + line_words h.long
line_follows h l = omega arith

-- words of set bits show closed places only
all_closed : (copy : List ℕ) → ((j : ℕ) → j < 2 → get_or copy j 0 ≡ 2 ^ 64 - 1) → (q : ℕ) → seen copy q ≡ true
unfolding seen
all_closed copy ones zero = refl
all_closed copy ones (suc i) = elim (cases_lt i 128) [
  | inl b ↦ ap (λ t. cond t (bit (get_or copy (i / 64) 0) (i % 64)) true) (lt-ltb i 128 b) ∙ ap (λ w. bit w (i % 64)) (ones (i / 64) (omega arith)) ∙ bit_all (i % 64) (omega arith)
  | inr b ↦ ap (λ t. cond t (bit (get_or copy (i / 64) 0) (i % 64)) true) (le-ltb i 128 b)
]

pub outside_closed : (q : ℕ) → seen ((2 ^ 64 - 1) ∷ ((2 ^ 64 - 1) ∷ [])) q ≡ true
outside_closed = all_closed ((2 ^ 64 - 1) ∷ ((2 ^ 64 - 1) ∷ [])) both
  where
    both : (j : ℕ) → j < 2 → get_or ((2 ^ 64 - 1) ∷ ((2 ^ 64 - 1) ∷ [])) j 0 ≡ 2 ^ 64 - 1
    both zero l = refl
    both (suc zero) l = refl
    both (suc (suc j)) l = absurd (omega arith)

-- a line outside is closed
pub line_before_none : (words : List ℕ) (h : Half) (q : ℕ) → line_at words h 0 q ≡ true
unfolding line_at
line_before_none words h q = refl

pub no_line : (words : List ℕ) (h : Half) (l : ℕ) → h.lines ≤ l → (q : ℕ) → line_at words h (suc l) q ≡ true
unfolding line_at
no_line words h l b zero = refl
no_line words h l b (suc i) = ap (λ t. cond t (shut words h l i) true) (and_left (ltb l h.lines) _ (le-ltb l h.lines b))

module _ (words : List ℕ) (h : Half) (l : ℕ) (copy : List ℕ) (l< : l < h.lines) (short : h.long ≤ 128)
    (own : (j : ℕ) → j < line_words h.long → get_or copy j 0 ≡ get_or words (word_of h l 0 + j) 0)
    (others : (j : ℕ) → line_words h.long ≤ j → j < 2 → get_or copy j 0 ≡ 2 ^ 64 - 1) where
  pub copied : (q : ℕ) → seen copy q ≡ line_at words h (suc l) q
  unfolding seen line_at shut
  copied zero = refl
  copied (suc i) = elim (cases_lt i (64 * line_words h.long)) [
    | inl b ↦
        let at : word_of h l 0 + i / 64 ≡ word_of h l i = omega arith in
        let within : (ltb l h.lines && ltb i (64 * line_words h.long)) ≡ true = and_from _ _ (lt-ltb l h.lines l<) (lt-ltb i (64 * line_words h.long) b) in
        ap (λ t. cond t (bit (get_or copy (i / 64) 0) (i % 64)) true) (lt-ltb i 128 (omega arith)) ∙
        ap (λ w. bit w (i % 64)) (own (i / 64) (omega arith) ∙ ap (λ n. get_or words n 0) at) ∙
        sym (ap (λ t. cond t (bit (get_or words (word_of h l i) 0) (i % 64)) true) within)
    | inr b ↦
        let outside : (ltb l h.lines && ltb i (64 * line_words h.long)) ≡ false = and_right (ltb l h.lines) _ (le-ltb i (64 * line_words h.long) b) in
        past i b ∙ sym (ap (λ t. cond t (bit (get_or words (word_of h l i) 0) (i % 64)) true) outside)
  ]
    where
      past : (i : ℕ) → 64 * line_words h.long ≤ i → cond (ltb i 128) (bit (get_or copy (i / 64) 0) (i % 64)) true ≡ true
      past i b = elim (cases_lt i 128) [
        | inl c ↦ ap (λ t. cond t (bit (get_or copy (i / 64) 0) (i % 64)) true) (lt-ltb i 128 c) ∙ ap (λ w. bit w (i % 64)) (others (i / 64) (omega arith) (omega arith)) ∙ bit_all (i % 64) (omega arith)
        | inr c ↦ ap (λ t. cond t (bit (get_or copy (i / 64) 0) (i % 64)) true) (le-ltb i 128 c)
      ]

-- The same of a copy written out word by word, for each number of words that a line can have.
module _ (words : List ℕ) (h : Half) (l : ℕ) (l< : l < h.lines) (short : h.long ≤ 128) where
  pub copied_none : line_words h.long ≡ 0 → (q : ℕ) → seen ((2 ^ 64 - 1) ∷ ((2 ^ 64 - 1) ∷ [])) q ≡ line_at words h (suc l) q
  copied_none n = copied words h l ((2 ^ 64 - 1) ∷ ((2 ^ 64 - 1) ∷ [])) l< short (λ j b. absurd (omega (arith, n))) others
    where
      others : (j : ℕ) → line_words h.long ≤ j → j < 2 → get_or ((2 ^ 64 - 1) ∷ ((2 ^ 64 - 1) ∷ [])) j 0 ≡ 2 ^ 64 - 1
      others zero a b = refl
      others (suc zero) a b = refl
      others (suc (suc j)) a b = absurd (omega arith)

  pub copied_one : (x : ℕ) → line_words h.long ≡ 1 → x ≡ get_or words (word_of h l 0 + 0) 0 → (q : ℕ) → seen (x ∷ ((2 ^ 64 - 1) ∷ [])) q ≡ line_at words h (suc l) q
  copied_one x n e = copied words h l (x ∷ ((2 ^ 64 - 1) ∷ [])) l< short own others
    where
      own : (j : ℕ) → j < line_words h.long → get_or (x ∷ ((2 ^ 64 - 1) ∷ [])) j 0 ≡ get_or words (word_of h l 0 + j) 0
      own zero b = e
      own (suc j) b = absurd (omega (arith, n))

      others : (j : ℕ) → line_words h.long ≤ j → j < 2 → get_or (x ∷ ((2 ^ 64 - 1) ∷ [])) j 0 ≡ 2 ^ 64 - 1
      others zero a b = absurd (omega (arith, n))
      others (suc zero) a b = refl
      others (suc (suc j)) a b = absurd (omega arith)

  pub copied_two : (x y : ℕ) → 2 ≤ line_words h.long → x ≡ get_or words (word_of h l 0 + 0) 0 → y ≡ get_or words (word_of h l 0 + 1) 0 → (q : ℕ) → seen (x ∷ (y ∷ [])) q ≡ line_at words h (suc l) q
  copied_two x y n e f = copied words h l (x ∷ (y ∷ [])) l< short own (λ j a b. absurd (omega (arith, n)))
    where
      own : (j : ℕ) → j < line_words h.long → get_or (x ∷ (y ∷ [])) j 0 ≡ get_or words (word_of h l 0 + j) 0
      own zero b = e
      own (suc zero) b = f
      own (suc (suc j)) b = absurd (let many : line_words h.long ≤ 2 = omega arith in omega arith)
