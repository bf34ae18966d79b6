-- The bits of a word, and the ways along them.
use Rattle.std.specs.Prelude.{ℕ, zero, suc, ◌+◌, ◌/◌, ◌%◌, ◌^◌, Bool, cond, ◌==◌, nat_lt}
use Rattle.packed.specs.declared.words.Way.{Way}
use Rattle.packed.specs.declared.words.Way.TheVariants.{Forward, Backward}

-- the other way
abbrev pub turned : Way → Way
turned Forward = Backward
turned Backward = Forward

-- whether the bit that is worth 2 ^ i is set
unfoldable pub bit : ℕ → ℕ → Bool
bit word i = word / 2 ^ i % 2 == 1

-- whether one comes to i before j
abbrev pub sooner : Way → ℕ → ℕ → Bool
sooner Forward i j = nat_lt i j
sooner Backward i j = nat_lt j i

-- what stands one place before i on the way, where `last` is the word that one comes from
abbrev pub previous : Way → ℕ → ℕ → ℕ → Bool
previous Forward word last zero = bit last 63
previous Forward word last (suc i) = bit word i
previous Backward word last i = cond (nat_lt i 63) (bit word (i + 1)) (bit last 0)
