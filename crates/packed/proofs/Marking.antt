-- What a write of one bit does: no two places of a half share a bit, and the two halves share no word.
use Rattle.std.proofs.Common.{◌≡◌, ℕ, ◌+◌, ◌*◌, ◌/◌, ◌%◌, ◌<◌, ◌≤◌, Bool, true, false, cond, not, ◌&&◌, eqb, ltb, ◌≢◌, List, length, get_or, drop, set, sym, refl, ap, ◌∙◌, subst, inl, inr, arith, get_or-set_other, get_or-set_same}
use mathlib.Core.Bool.{not-not}
use Rattle.std.proofs.Math.Bool.{and_comm}
use Rattle.std.proofs.lemmas.Nat.{mul-add-lt}
use Rattle.std.proofs.lemmas.List.{drop-set-lt, length-set}
use Rattle.std.proofs.lemmas.Bool.{cases_Bool, cases_eq, and_parts, and_cases, and_left, and_right, ltb-true, ltb-false, lt-ltb, eq-eqb, ne_eqb, eqb-true}
use Rattle.floor.specs.declared.Cell.{Cell}
use Rattle.floor.specs.Plans.{is_open, marked}
use Rattle.source.proofs.Indices.{same_pair}
use Rattle.packed.specs.declared.halves.Half.{Half}
use Rattle.packed.specs.Bits.{bit}
use Rattle.packed.specs.Layout.{line_words, by_rows, by_cols, words_needed, word_of, shut, plan_of, Laid}

-- ---- where the words lie

-- the words of a half lie together
pub word_in : (h : Half) (l i : ℕ) → l < h.lines → i < 64 * line_words h.long → word_of h l i < h.from + h.lines * line_words h.long
word_in h l i p q = omega (arith, mul-add-lt l (line_words h.long) (i / 64) h.lines p (omega arith))

-- ---- writing one bit of a half

module _ (words : List ℕ) (h : Half) (l i w : ℕ) (b : Bool) where
  -- w is the word of place i of line l, with that place's bit set or cleared
  abbrev pub Turned : Type 0
  Turned = (j : ℕ) → j < 64 → bit w j ≡ cond (eqb j (i % 64)) b (bit (get_or words (word_of h l i) 0) j)

  same_bit : (i' : ℕ) → i' / 64 ≡ i / 64 → eqb (i' % 64) (i % 64) ≡ eqb i' i
  same_bit i' e = elim (cases_eq i' i) [
    | inl s ↦ eq-eqb (i' % 64) (i % 64) (ap (λ n. n % 64) s) ∙ sym (eq-eqb i' i s)
    | inr d ↦ ne_eqb (i' % 64) (i % 64) (λ s. d (omega arith)) ∙ sym (ne_eqb i' i d)
  ]

  pub written : word_of h l i < length words → i < 64 * line_words h.long → Turned →
      (l' i' : ℕ) → i' < 64 * line_words h.long → shut (set words (word_of h l i) w) h l' i' ≡ cond (eqb l' l && eqb i' i) b (shut words h l' i')
  unfolding shut
  written within i< turned l' i' i'< = elim (cases_eq (word_of h l' i') (word_of h l i)) [
    | inl same ↦
        let at = same_pair (line_words h.long) l' (i' / 64) l (i / 64) (omega arith) (omega arith) (omega arith) in
        let read : get_or (set words (word_of h l i) w) (word_of h l' i') 0 ≡ w = ap (λ k. get_or (set words (word_of h l i) w) k 0) same ∙ get_or-set_same words (word_of h l i) w 0 within in
        let here : eqb (i' % 64) (i % 64) ≡ (eqb l' l && eqb i' i) = same_bit i' at.1 ∙ sym (ap (λ t. t && eqb i' i) (eq-eqb l' l at.0)) in
        ap (λ v. bit v (i' % 64)) read ∙ turned (i' % 64) (omega arith) ∙
        (λ t. cond (here t) b (bit (get_or words (sym same t) 0) (i' % 64)))
    | inr other ↦
        let away : (eqb l' l && eqb i' i) ≡ false = elim (cases_Bool (eqb l' l && eqb i' i)) [
          | inr f ↦ f
          | inl t ↦
              let both = and_parts _ _ t in
              absurd (other (ap (λ n. word_of h n i') (eqb-true l' l both.0) ∙ ap (word_of h l) (eqb-true i' i both.1)))
        ] in
        ap (λ v. bit v (i' % 64)) (get_or-set_other words (word_of h l i) (word_of h l' i') w 0 other) ∙
        sym (ap (λ t. cond t b (bit (get_or words (word_of h l' i') 0) (i' % 64))) away)
  ]

-- a write before a half or after it leaves it
pub elsewhere : (words : List ℕ) (h : Half) (k w : ℕ) → (h.from ≤ k → k < h.from + h.lines * line_words h.long → ⊥) →
    (l i : ℕ) → l < h.lines → i < 64 * line_words h.long → shut (set words k w) h l i ≡ shut words h l i
unfolding shut
elsewhere words h k w out l i l< i< =
    let other : word_of h l i ≢ k = λ e. out (omega arith) (omega (arith, word_in h l i l< i<)) in
    ap (λ v. bit v (i % 64)) (get_or-set_other words k (word_of h l i) w 0 other)

-- ---- marking a cell: one bit of each half

module _ (rows cols : ℕ) (words : List ℕ) (x : Cell) (r< : x.row < rows) (c< : x.col < cols) (laid : Laid rows cols words) where
  abbrev pub across : ℕ
  across = word_of (by_rows rows cols) x.row x.col

  abbrev pub down : ℕ
  down = word_of (by_cols rows cols) x.col x.row

  across_below : across < rows * line_words cols
  across_below = omega (arith, word_in (by_rows rows cols) x.row x.col r< (omega arith))

  down_below : (rows * line_words cols ≤ down) × (down < words_needed rows cols)
  down_below = (omega arith, word_in (by_cols rows cols) x.col x.row c< (omega arith))

  -- the two words that are written, by the halves they lie in
  pub across_in : (h : Half) (k : ℕ) → h ≡ by_rows rows cols → k ≡ word_of h x.row x.col → (k ≡ across) × (k < length words)
  across_in h k e f = let at : k ≡ across = f ∙ ap (λ g. word_of g x.row x.col) e in (at, omega (arith, across_below, laid.fits))

  pub down_in : (h : Half) (k : ℕ) → h ≡ by_cols rows cols → k ≡ word_of h x.col x.row → (k ≡ down) × (k < length words)
  down_in h k e f = let at : k ≡ down = f ∙ ap (λ g. word_of g x.col x.row) e in (at, omega (arith, down_below.1, laid.fits))

  module _ (b : Bool) where
    module _ (v w : ℕ) (turned : Turned words (by_rows rows cols) x.row x.col v (not b)) (turned' : Turned (set words across v) (by_cols rows cols) x.col x.row w (not b)) where
      abbrev after : List ℕ
      after = set (set words across v) down w

      in_rows : (r c : ℕ) → r < rows → c < 64 * line_words cols → shut after (by_rows rows cols) r c ≡ cond (eqb r x.row && eqb c x.col) (not b) (shut words (by_rows rows cols) r c)
      in_rows r c p q =
          elsewhere (set words across v) (by_rows rows cols) down w (λ l m. omega (arith, down_below.0)) r c p q ∙
          written words (by_rows rows cols) x.row x.col v (not b) (omega (arith, across_below, laid.fits)) (omega arith) turned r c q

      in_cols : (c r : ℕ) → c < cols → r < 64 * line_words rows → shut after (by_cols rows cols) c r ≡ cond (eqb c x.col && eqb r x.row) (not b) (shut words (by_cols rows cols) c r)
      in_cols c r p q =
          written (set words across v) (by_cols rows cols) x.col x.row w (not b) (omega (arith, down_below.1, laid.fits, length-set words across v)) (omega arith) turned' c r q ∙
          ap (cond (eqb c x.col && eqb r x.row) (not b)) (elsewhere words (by_cols rows cols) across v (λ l m. omega (arith, across_below)) c r p q)

      -- past the end of a line nothing is marked
      still : (t : Bool) (long i j : ℕ) (e : Bool) → i < long → long ≤ j → cond (t && eqb j i) (not b) e ≡ e
      still t long i j e p q = ap (λ s. cond s (not b) e) (and_right t (eqb j i) (ne_eqb j i (λ s. omega arith)))

      marking_laid : Laid rows cols after
      marking_laid = record {
        fits = omega (arith, laid.fits, length-set (set words across v) down w, length-set words across v);
        agree = λ r c at.
            in_cols c r at.1 (omega (arith, at.0)) ∙
            (λ t. cond (and_comm (eqb c x.col) (eqb r x.row) t) (not b) (laid.agree r c at t)) ∙
            sym (in_rows r c at.0 (omega (arith, at.1)));
        row_ends = λ l i at. in_rows l i at.0 at.2 ∙ still (eqb l x.row) cols x.col i _ c< at.1 ∙ laid.row_ends l i at;
        col_ends = λ l i at. in_cols l i at.0 at.2 ∙ still (eqb l x.col) rows x.row i _ r< at.1 ∙ laid.col_ends l i at;
      }

      -- what one cell says afterwards
      cell_says : (r c : ℕ) →
          ((ltb r rows && ltb c cols) && not (shut after (by_rows rows cols) r c)) ≡
          cond (eqb r x.row && eqb c x.col) b ((ltb r rows && ltb c cols) && not (shut words (by_rows rows cols) r c))
      cell_says r c = elim (cases_Bool (ltb r rows && ltb c cols)) [
        | inl within ↦
            let both = and_parts _ _ within in
            rw (within, in_rows r c (ltb-true r rows both.0) (omega (arith, ltb-true c cols both.1))) (chosen (eqb r x.row && eqb c x.col) (shut words (by_rows rows cols) r c))
        | inr out ↦
            let away : (eqb r x.row && eqb c x.col) ≡ false = elim (and_cases (ltb r rows) (ltb c cols) out) [
              | inl f ↦ and_left _ _ (ne_eqb r x.row (λ e. omega (arith, ltb-false r rows f)))
              | inr f ↦ and_right _ _ (ne_eqb c x.col (λ e. omega (arith, ltb-false c cols f)))
            ] in
            rw (out, away)
      ]
        where
          chosen : (t e : Bool) → not (cond t (not b) e) ≡ cond t b (not e)
          chosen true e = not-not b
          chosen false e = refl

      marking_marks : plan_of rows cols after ≡ marked (plan_of rows cols words) x b
      marking_marks = λ i. record { rows = rows; cols = cols; free = λ r c. cell_says r c i }

      marking_rest : drop (words_needed rows cols) after ≡ drop (words_needed rows cols) words
      marking_rest =
          drop-set-lt (words_needed rows cols) (set words across v) down w down_below.1 ∙
          drop-set-lt (words_needed rows cols) words across v (omega (arith, across_below))

    -- what marking leaves: the layout, the plan with that cell set, and the rest
    abbrev pub Marks : List ℕ → Type 0
    Marks after = Laid rows cols after × (plan_of rows cols after ≡ marked (plan_of rows cols words) x b) × (drop (words_needed rows cols) after ≡ drop (words_needed rows cols) words)

    pub marking : (k k' v w : ℕ) → k ≡ across → k' ≡ down →
        ((j : ℕ) → j < 64 → bit v j ≡ cond (eqb j (x.col % 64)) (not b) (bit (get_or words k 0) j)) →
        ((j : ℕ) → j < 64 → bit w j ≡ cond (eqb j (x.row % 64)) (not b) (bit (get_or (set words k v) k' 0) j)) → Marks (set (set words k v) k' w)
    marking k k' v w e e' t t' =
        let u : Turned words (by_rows rows cols) x.row x.col v (not b) = λ j l. t j l ∙ ap (λ n. cond (eqb j (x.col % 64)) (not b) (bit (get_or words n 0) j)) e in
        let u' : Turned (set words across v) (by_cols rows cols) x.col x.row w (not b) = λ j l. t' j l ∙ (λ z. cond (eqb j (x.row % 64)) (not b) (bit (get_or (set words (e z) v) (e' z) 0) j)) in
        subst (λ n. Marks (set (set words n v) k' w)) (sym e) (subst (λ n. Marks (set (set words across v) n w)) (sym e') (marking_laid v w u u', marking_marks v w u u', marking_rest v w u u'))

-- reading the bit of a cell inside
pub reads_cell : (rows cols : ℕ) (words : List ℕ) (x : Cell) (k : ℕ) (b : Bool) → x.row < rows → x.col < cols → k ≡ word_of (by_rows rows cols) x.row x.col →
    b ≡ bit (get_or words k 0) (x.col % 64) → not b ≡ is_open (plan_of rows cols words) x
unfolding shut
reads_cell rows cols words x k b r< c< e is =
    let row_in : ltb x.row rows ≡ true = lt-ltb x.row rows r< in
    let col-in : ltb x.col cols ≡ true = lt-ltb x.col cols c< in
    rw (row_in, col-in) (ap not (is ∙ ap (λ n. bit (get_or words n 0) (x.col % 64)) e))
