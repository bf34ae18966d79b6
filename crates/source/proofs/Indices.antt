-- Cells and their indices: no two cells inside have one, and each number below rows × columns is that of a cell.
use Rattle.std.proofs.Common.{◌≡◌, ℕ, zero, suc, ◌+◌, ◌*◌, ◌/◌, ◌%◌, ◌<◌, true, cond, ◌&&◌, ltb, Some, None, sym, ap, ◌∙◌, inl, inr, arith}
use Rattle.std.proofs.lemmas.Nat.{mul-add-lt}
use Rattle.std.proofs.lemmas.Bool.{cases_Bool, and_parts, and_from, cond-true, ltb-true, lt-ltb}
use Rattle.std.proofs.Math.Nat.{div-add-mod, div-lt_iff_lt-mul, mod-lt}
use Rattle.floor.specs.declared.Cell.{Cell}
pub use Rattle.floor.proofs.Cells.{same_pair}
use Rattle.source.specs.Indices.{index_in, ItsOwn, NoneLeftOut}

pub index_below : (rows cols r c : ℕ) → r < rows → c < cols → r * cols + c < rows * cols
index_below rows cols r c p q = omega (arith, mul-add-lt r cols c rows p q)

-- a cell that has an index lies inside
pub record Placed (rows cols : ℕ) (x : Cell) (i : ℕ) : Type 0 where
  pub in_rows : x.row < rows
  pub in_cols : x.col < cols
  pub is_inside : (ltb x.row rows && ltb x.col cols) ≡ true
  pub at : i ≡ x.row * cols + x.col

pub placed : (rows cols : ℕ) (x : Cell) (i : ℕ) → Some i ≡ index_in rows cols x → Placed rows cols x i
placed rows cols x i e = elim (cases_Bool (ltb x.row rows && ltb x.col cols)) [
  | inl within ↦
      let both = and_parts _ _ within in
      let is : Some i ≡ Some (x.row * cols + x.col) = e ∙ ap (λ b. cond b (Some (x.row * cols + x.col)) None) within in
      record { in_rows = ltb-true _ _ both.0; in_cols = ltb-true _ _ both.1; is_inside = within; at = cc is }
  | inr out ↦
      let is : Some i ≡ None = e ∙ ap (λ b. cond b (Some (x.row * cols + x.col)) None) out in
      let never : ◌≡◌ {A = ℕ} 0 1 = cc is in
      absurd (omega arith)
]

pub its_own : (rows cols : ℕ) (c : Cell) (i : ℕ) → Some i ≡ index_in rows cols c → ItsOwn rows cols c (Some i)
its_own rows cols c i e d f =
    let x = placed rows cols c i e in
    let y = placed rows cols d i (sym f) in
    let same = same_pair cols d.row d.col c.row c.col y.in_cols x.in_cols (sym y.at ∙ x.at) in
    λ j. record { row = same.0 j; col = same.1 j }

pub none_left_out : (rows cols : ℕ) → NoneLeftOut rows cols
none_left_out rows zero i b = absurd (omega (arith, b))
none_left_out rows (suc n) i b =
    let cols : ℕ = suc n in
    let row : i / cols < rows = (div-lt_iff_lt-mul {k = cols} (omega arith)).1 b in
    let col : i % cols < cols = mod-lt i {m = cols} (omega arith) in
    let is : i / cols * cols + i % cols ≡ i = omega (arith, div-add-mod i cols) in
    (record { row = i / cols; col = i % cols }, cond-true _ _ _ (and_from _ _ (lt-ltb _ _ row) (lt-ltb _ _ col)) ∙ ap Some is)
