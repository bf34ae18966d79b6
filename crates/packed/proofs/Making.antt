-- A new plan: words of set bits are closed everywhere, in both halves and past the end of each line.
use Rattle.std.proofs.Common.{◌≡◌, ℕ, ◌+◌, ◌-◌, ◌*◌, ◌%◌, ◌^◌, ◌<◌, ◌≤◌, min, true, false, not, ◌&&◌, ltb, List, ◌++◌, length, get_or, take, drop, replicate, Ok, Err, Result, sym, refl, ap, ◌∙◌, subst, inl, inr, arith}
use mathlib.Core.Path.{transport}
use Rattle.std.proofs.lemmas.Bool.{cases_Bool, and_parts, ltb-true}
use Rattle.std.proofs.lemmas.Result.{MatchResult-weaker}
use Rattle.floor.specs.Plans.{closed}
use Rattle.source.specs.declared.extents.Size.{Size}
use Rattle.source.specs.declared.sizes.SizeRefusal.{SizeRefusal}
use Rattle.source.specs.Sizes.{size_answer}
use Rattle.source.proofs.Laid.{Gets, enough, all_long, all_filled, rest_kept}
use Rattle.packed.specs.declared.halves.Half.{Half}
use Rattle.packed.specs.Bits.{bit}
use Rattle.packed.specs.Layout.{line_words, by_rows, by_cols, words_needed, word_of, shut, plan_of, Laid, New, Made}
use Rattle.packed.proofs.Digits.{bit_all}
use Rattle.packed.proofs.Marking.{word_in}

-- ---- the words

all_shut : (words : List ℕ) (n : ℕ) → ((k : ℕ) → k < n → get_or words k 0 ≡ 2 ^ 64 - 1) → (h : Half) → h.from + h.lines * line_words h.long ≤ n →
    (l i : ℕ) → l < h.lines → i < 64 * line_words h.long → shut words h l i ≡ true
unfolding shut
all_shut words n ones h fits l i l< i< =
    ap (λ v. bit v (i % 64)) (ones (word_of h l i) (omega (arith, word_in h l i l< i<))) ∙ bit_all (i % 64) (omega arith)

module _ (rows cols : ℕ) (words : List ℕ) (fits : words_needed rows cols ≤ length words) (ones : (k : ℕ) → k < words_needed rows cols → get_or words k 0 ≡ 2 ^ 64 - 1) where
  rows_shut : (r c : ℕ) → r < rows → c < 64 * line_words cols → shut words (by_rows rows cols) r c ≡ true
  rows_shut = all_shut words (words_needed rows cols) ones (by_rows rows cols) (omega arith)

  cols_shut : (c r : ℕ) → c < cols → r < 64 * line_words rows → shut words (by_cols rows cols) c r ≡ true
  cols_shut = all_shut words (words_needed rows cols) ones (by_cols rows cols) (omega arith)

  pub making_laid : Laid rows cols words
  making_laid = record {
    fits = fits;
    agree = λ r c at. cols_shut c r at.1 (omega (arith, at.0)) ∙ sym (rows_shut r c at.0 (omega (arith, at.1)));
    row_ends = λ l i at. rows_shut l i at.0 at.2;
    col_ends = λ l i at. cols_shut l i at.0 at.2;
  }

  pub making_closed : plan_of rows cols words ≡ closed rows cols
  making_closed = λ i. record { rows = rows; cols = cols; free = λ r c. none r c i }
    where
      none : (r c : ℕ) → ((ltb r rows && ltb c cols) && not (shut words (by_rows rows cols) r c)) ≡ false
      none r c = elim (cases_Bool (ltb r rows && ltb c cols)) [
        | inr out ↦ rw out
        | inl within ↦
            let both = and_parts _ _ within in
            rw (within, rows_shut r c (ltb-true r rows both.0) (omega (arith, ltb-true c cols both.1)))
      ]

-- Memory on which a plan of this size was made: as many words as the plan needs were written with all bits set.
module _ (rows cols : ℕ) (before written : List ℕ) (s : Size) (n : ℕ) (gets : Gets rows cols s (size_answer rows cols (length before) (words_needed rows cols)))
    (count : n ≡ min (words_needed s.rows s.cols) (2 ^ 64 - 1)) (short : length before < 2 ^ 64) where
  -- the memory is long enough for the size that the plan got
  long_enough : words_needed s.rows s.cols ≤ length before
  long_enough = at (size_answer rows cols (length before) (words_needed rows cols)) refl gets
    where
      at : (a : Result (Unit {0}) SizeRefusal) → size_answer rows cols (length before) (words_needed rows cols) ≡ a → Gets rows cols s a → words_needed s.rows s.cols ≤ length before
      at (Ok _) passed e = subst (λ k. k ≤ length before) (λ i. words_needed (sym e.0 i) (sym e.1 i)) (enough rows cols (length before) (words_needed rows cols) passed)
      at (Err _) refused e = let none : words_needed s.rows s.cols ≡ 0 = (λ i. words_needed (e.0 i) (e.1 i)) in omega (arith, none)

  all : n ≡ words_needed s.rows s.cols
  all = omega (arith, long_enough)

  pub room : n ≤ length before
  room = omega (arith, long_enough, all)

  module _ (filled : written ≡ replicate (length (take n before)) (2 ^ 64 - 1)) where
    abbrev now : List ℕ
    now = written ++ drop n before

    ones : (k : ℕ) → k < words_needed s.rows s.cols → get_or now k 0 ≡ 2 ^ 64 - 1
    ones k b = all_filled (2 ^ 64 - 1) n before written room filled k (omega (arith, all))

    fits : words_needed s.rows s.cols ≤ length now
    fits = omega (arith, long_enough, all_long (2 ^ 64 - 1) n before written room filled)

    pub made_laid : Laid s.rows s.cols now
    made_laid = making_laid s.rows s.cols now fits ones

    pub made_by : Made rows cols before (plan_of s.rows s.cols now) now
    made_by = MatchResult-weaker (size_answer rows cols (length before) (words_needed rows cols)) gets
        (λ _ e. transport (λ i. New (e.0 i) (e.1 i) before (plan_of s.rows s.cols now) now) new)
        (λ _ e. record {
          plan = making_closed s.rows s.cols now fits ones ∙ (λ i. closed (e.0 i) (e.1 i));
          rest = subst (λ k. drop k now ≡ drop k before) (λ i. words_needed (e.0 i) (e.1 i)) new.rest;
        })
      where
        new : New s.rows s.cols before (plan_of s.rows s.cols now) now
        new = record {
          plan = making_closed s.rows s.cols now fits ones;
          laid = made_laid;
          ones = ones;
          rest = subst (λ k. drop k now ≡ drop k before) all (rest_kept (2 ^ 64 - 1) n before written room filled);
        }
