-- Labels: a jump as one number of 16 bits.
use Rattle.std.specs.Prelude.{ℕ, ◌+◌, ◌-◌, ◌%◌, Bool, true, false, cond, nat_lt}

-- the low 15 bits are the steps, and bit 15 is set for a dead jump
abbrev pub label_of : ℕ × Bool → ℕ
label_of jump = cond jump.1 (jump.0 % 32768) (32768 + jump.0 % 32768)

-- the jump that a label says
abbrev pub said_by : ℕ → ℕ × Bool
said_by n = cond (nat_lt n 32768) (n, true) (n - 32768, false)
