-- Eight places to a cell: what passes a test of its cell comes eight times as often as the cell.
use Rattle.std.proofs.Common.{◌≡◌, ℕ, zero, suc, ◌+◌, ◌*◌, ◌/◌, ◌<◌, ◌≤◌, Bool, true, cond, refl, ap, ◌∙◌, inl, inr, mul_comm, arith}
use Rattle.std.proofs.lemmas.Bool.{cases_Bool}
use Rattle.std.proofs.lemmas.Nat.{div-mul-add}
use Rattle.search.specs.Mark.{count}

abbrev once : Bool → ℕ
once b = cond b 1 0

-- what passes one test only if it passes another comes no more often
pub count_le : (f g : ℕ → Bool) (n : ℕ) → ((k : ℕ) → k < n → f k ≡ true → g k ≡ true) → count f n ≤ count g n
unfolding count
count_le f g zero h = omega arith
count_le f g (suc n) h =
    let r = count_le f g n (λ k l. h k (omega arith)) in
    elim (cases_Bool (f n)) [
      | inl e ↦ let a : once (f n) ≡ 1 = ap once e in let b : once (g n) ≡ 1 = ap once (h n (omega arith) e) in omega arith
      | inr e ↦ let a : once (f n) ≡ 0 = ap once e in omega arith
    ]

module _ (f : ℕ → Bool) where
  run : (m j : ℕ) → j ≤ 8 → count (λ k. f (k / 8)) (m * 8 + j) ≡ count (λ k. f (k / 8)) (m * 8) + j * once (f m)
  unfolding count
  run m zero l = ap (count (λ k. f (k / 8))) (let e : m * 8 + 0 ≡ m * 8 = omega arith in e) ∙ omega arith
  run m (suc j) l =
      let a : once (f ((m * 8 + j) / 8)) ≡ once (f m) = ap (λ k. once (f k)) (div-mul-add m 8 j (omega arith)) in
      let r = run m j (omega arith) in
      ap (count (λ k. f (k / 8))) (let e : m * 8 + suc j ≡ suc (m * 8 + j) = omega arith in e) ∙ omega arith

  pub eightfold : (m : ℕ) → count (λ k. f (k / 8)) (8 * m) ≡ 8 * count f m
  unfolding count
  eightfold zero = refl
  eightfold (suc m) =
      let r = run m 8 (omega arith) in
      let h = eightfold m in
      let s : count (λ k. f (k / 8)) (m * 8) ≡ count (λ k. f (k / 8)) (8 * m) = ap (count (λ k. f (k / 8))) (mul_comm m 8) in
      ap (count (λ k. f (k / 8))) (let e : 8 * suc m ≡ m * 8 + 8 = omega arith in e) ∙ omega arith
