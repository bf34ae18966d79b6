-- Rows and columns, step by step: where a shift leads, and after how many steps it comes to a number.
use Rattle.std.proofs.Common.{◌≡◌, ℕ, zero, suc, ◌+◌, ◌-◌, ◌<◌, ◌≤◌, cond, ltb, ℤ, pos, negsuc, ◌+ℤ◌, Some, None, Option, sym, refl, subst, arith}
use borrow.Author.Differences.{ints}
use Rattle.std.proofs.lemmas.Bool.{cond_both, ltb-true, ltb-false}
use Rattle.floor.specs.declared.shifts.Shift.{Shift}
use Rattle.floor.specs.declared.shifts.Shift.TheVariants.{Less, Same, More}
use Rattle.floor.specs.Steps.{by, shifted, Meets}

shifted_more : (k : ℕ) (z : ℤ) → shifted (pos 1) k z ≡ z +ℤ pos k
shifted_more zero z = omega (arith, ints)
shifted_more (suc k) z = omega (arith, ints, shifted_more k (z +ℤ pos 1))

shifted_less : (k : ℕ) (z : ℤ) → shifted (negsuc 0) k z +ℤ pos k ≡ z
shifted_less zero z = omega (arith, ints)
shifted_less (suc k) z = omega (arith, ints, shifted_less k (z +ℤ negsuc 0))

pub shifted_same : (k : ℕ) (z : ℤ) → shifted (pos 0) k z ≡ z
shifted_same zero z = refl
shifted_same (suc k) z = omega (arith, ints, shifted_same k (z +ℤ pos 0))

-- from and to, k steps apart
abbrev pub Apart : Shift → ℕ → ℕ → ℕ → Type 0
Apart Less k from to = to + k ≡ from
Apart Same k from to = to ≡ from
Apart More k from to = to ≡ from + k

pub apart : (s : Shift) (k from to : ℕ) → shifted (by s) k (pos from) ≡ pos to → Apart s k from to
apart Less k from to e = omega (arith, ints, shifted_less k (pos from))
apart Same k from to e = omega (arith, ints, shifted_same k (pos from))
apart More k from to e = omega (arith, ints, shifted_more k (pos from))

from_apart : (s : Shift) (k from to : ℕ) → Apart s k from to → shifted (by s) k (pos from) ≡ pos to
from_apart Less k from to e = omega (arith, ints, shifted_less k (pos from))
from_apart Same k from to e = omega (arith, ints, shifted_same k (pos from))
from_apart More k from to e = omega (arith, ints, shifted_more k (pos from))

-- how far one number lies past another, if it does
abbrev past : ℕ → ℕ → Option ℕ
past low high = cond (ltb low high) (Some (high - low)) None

by_past : (P : Option ℕ → Type 0) (low high : ℕ) → (low < high → P (Some (high - low))) → (high ≤ low → P None) → P (past low high)
by_past P low high y n = cond_both (ltb low high) _ _ P (λ e. y (ltb-true low high e)) (λ e. n (ltb-false low high e))

meets_as : {s t : Shift} {o q : Option ℕ} (from to : ℕ) → s ≡ t → o ≡ q → Meets t from to q → Meets s from to o
meets_as {s} {t} {o} {q} from to u v m = subst (λ a. Meets a from to o) (sym u) (subst (Meets t from to) (sym v) m)

pub meets_less : {s : Shift} {o : Option ℕ} (from to : ℕ) → s ≡ Less → o ≡ past to from → Meets s from to o
meets_less {s} {o} from to u v =
    meets_as from to u v
    (by_past (Meets Less from to) to from
    (λ l. (omega arith, from_apart Less (from - to) from to (omega arith), λ i e. omega (arith, apart Less i from to e)))
    (λ l moves i m e. omega (arith, apart Less i from to e)))

pub meets_more : {s : Shift} {o : Option ℕ} (from to : ℕ) → s ≡ More → o ≡ past from to → Meets s from to o
meets_more {s} {o} from to u v =
    meets_as from to u v
    (by_past (Meets More from to) from to
    (λ l. (omega arith, from_apart More (to - from) from to (omega arith), λ i e. omega (arith, apart More i from to e)))
    (λ l moves i m e. omega (arith, apart More i from to e)))
