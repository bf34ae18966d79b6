-- Two signed differences, of straight and of diagonal steps, held against each other.
use Rattle.std.specs.Prelude.{ℕ, ◌+◌, ◌*◌, Bool, true, false, ℤ, pos, int_lt, unsigned_abs}
use Rattle.rate.specs.declared.Comparison.{Comparison}
use Rattle.rate.specs.Exact.{squared, compared}

-- by which of the two is negative, and by their squares: of one sign they add up, of two they are compared
abbrev pub by_signs : Bool → Bool → ℕ → ℕ → Comparison
by_signs false false s d = compared (s + d) 0
by_signs false true s d = compared s d
by_signs true false s d = compared d s
by_signs true true s d = compared 0 (s + d)

-- s + d√2 beside 0
abbrev pub balance : ℤ → ℤ → Comparison
balance s d = by_signs (int_lt s (pos 0)) (int_lt d (pos 0)) (squared (unsigned_abs s)) (2 * squared (unsigned_abs d))
