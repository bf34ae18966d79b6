-- What a write of a cell's byte does to the plan: no two cells inside share a byte.
use Rattle.std.proofs.Common.{◌≡◌, ℕ, ◌+◌, ◌*◌, ◌<◌, ◌≤◌, Bool, true, false, cond, ◌&&◌, eqb, ltb, ◌≢◌, List, length, get_or, set, Some, sym, refl, ap, ◌∙◌, subst, inl, inr, arith, get_or-set_other, get_or-set_same}
use Rattle.std.proofs.lemmas.List.{drop-set-lt}
use Rattle.std.proofs.lemmas.Bool.{cases_Bool, cases_eq, and_parts, and_cases, ltb-true, lt-ltb, eqb-true, eqb-false}
use Rattle.floor.specs.declared.Cell.{Cell}
use Rattle.floor.specs.Plans.{marked, closed}
use Rattle.source.specs.Indices.{index_in}
use Rattle.source.proofs.Indices.{index_below, same_pair, placed}
use Rattle.octets.specs.Layout.{plan_of, written, Kept}

written_is : (b : Bool) → eqb (written b) 0 ≡ b
written_is true = refl
written_is false = refl

written_small : (b : Bool) → written b ≤ 1
written_small true = omega arith
written_small false = omega arith

module _ (rows cols : ℕ) (bytes : List ℕ) (x : Cell) (b : Bool) (r< : x.row < rows) (c< : x.col < cols) (fits : rows * cols ≤ length bytes) where
  abbrev index : ℕ
  index = x.row * cols + x.col

  below : index < rows * cols
  below = index_below rows cols x.row x.col r< c<

  -- what one cell says after the write
  after_write : (r c : ℕ) →
      ((ltb r rows && ltb c cols) && eqb (get_or (set bytes index (written b)) (r * cols + c) 0) 0) ≡
      cond (eqb r x.row && eqb c x.col) b ((ltb r rows && ltb c cols) && eqb (get_or bytes (r * cols + c) 0) 0)
  after_write r c = elim (cases_Bool (eqb r x.row && eqb c x.col)) [
    | inl e ↦
        let here = and_parts _ _ e in
        let r= : r ≡ x.row = eqb-true r x.row here.0 in
        let c= : c ≡ x.col = eqb-true c x.col here.1 in
        let in_list : index < length bytes = omega (arith, below) in
        let read : get_or (set bytes index (written b)) (r * cols + c) 0 ≡ written b = subst (λ k. get_or (set bytes index (written b)) k 0 ≡ written b) (ap (λ n. n * cols + x.col) (sym r=) ∙ ap (λ n. r * cols + n) (sym c=)) (rw get_or-set_same) in
        let row_in : ltb r rows ≡ true = ap (λ n. ltb n rows) r= ∙ lt-ltb x.row rows r< in
        let col-in : ltb c cols ≡ true = ap (λ n. ltb n cols) c= ∙ lt-ltb x.col cols c< in
        rw (e, row_in, col-in, read) (written_is b)
    | inr e ↦ rw e
        (elim (cases_Bool (ltb r rows && ltb c cols)) [
          | inr out ↦ rw out refl
          | inl within ↦
              let both = and_parts _ _ within in
              let apart : r * cols + c ≢ index = λ same.
              let s = same_pair cols r c x.row x.col (ltb-true c cols both.1) c< same in
              elim (and_cases _ _ e) [ inl f ↦ eqb-false _ _ f s.0 | inr f ↦ eqb-false _ _ f s.1 ] in
              ap (λ v. (ltb r rows && ltb c cols) && eqb v 0) (get_or-set_other bytes index (r * cols + c) (written b) 0 apart)
        ])
  ]

  -- the plan with that cell set
  pub write_marks : plan_of rows cols (set bytes index (written b)) ≡ marked (plan_of rows cols bytes) x b
  write_marks = λ i. record { rows = rows; cols = cols; free = λ r c. after_write r c i }

  pub write_keeps : Kept rows cols bytes (set bytes index (written b))
  write_keeps = record { rest = drop-set-lt (rows * cols) bytes index (written b) below; plain = plain }
    where
      plain : (k : ℕ) → k < rows * cols → get_or bytes k 0 ≤ 1 → get_or (set bytes index (written b)) k 0 ≤ 1
      plain k l e = elim (cases_eq k index) [
        | inl same ↦
            let in_list : index < length bytes = omega (arith, below) in
            subst (λ n. get_or (set bytes index (written b)) n 0 ≤ 1) (sym same) (rw get_or-set_same (written_small b))
        | inr other ↦ subst (λ n. n ≤ 1) (sym (get_or-set_other bytes index k (written b) 0 other)) e
      ]

-- writing that byte sets that cell, and no more than the plan's bytes change
pub mark_by : (rows cols : ℕ) (bytes : List ℕ) (x : Cell) (b : Bool) (i v : ℕ) → Some i ≡ index_in rows cols x → v ≡ written b → rows * cols ≤ length bytes →
    (plan_of rows cols (set bytes i v) ≡ marked (plan_of rows cols bytes) x b) × Kept rows cols bytes (set bytes i v)
mark_by rows cols bytes x b i v e w fits =
    let p = placed rows cols x i e in
    let is : set bytes i v ≡ set bytes (x.row * cols + x.col) (written b) = ap (λ n. set bytes n v) p.at ∙ ap (set bytes (x.row * cols + x.col)) w in
    rw is (write_marks rows cols bytes x b p.in_rows p.in_cols fits, write_keeps rows cols bytes x b p.in_rows p.in_cols fits)

-- bytes of 1 mean a new plan
pub ones_closed : (rows cols : ℕ) (bytes : List ℕ) → ((k : ℕ) → k < rows * cols → get_or bytes k 0 ≡ 1) → plan_of rows cols bytes ≡ closed rows cols
ones_closed rows cols bytes ones = λ i. record { rows = rows; cols = cols; free = λ r c. shut r c i }
  where
    shut : (r c : ℕ) → ((ltb r rows && ltb c cols) && eqb (get_or bytes (r * cols + c) 0) 0) ≡ false
    shut r c = elim (cases_Bool (ltb r rows && ltb c cols)) [
      | inr out ↦ rw out refl
      | inl within ↦
          let both = and_parts _ _ within in
          let one : get_or bytes (r * cols + c) 0 ≡ 1 = ones (r * cols + c) (index_below rows cols r c (ltb-true r rows both.0) (ltb-true c cols both.1)) in
          rw (within, one) refl
    ]
