-- A label of fewer than 32,768 steps says them again.
use Rattle.std.proofs.Common.{◌≡◌, ℕ, ◌+◌, ◌-◌, ◌%◌, ◌<◌, Bool, true, false, ltb, arith}
use Rattle.std.proofs.lemmas.Bool.{lt-ltb, le-ltb}
use Rattle.source.specs.Labels.{label_of, said_by}

pub label_says : (steps : ℕ) (live : Bool) → steps < 32768 → said_by (label_of (steps, live)) ≡ (steps, live)
label_says k true b =
    let low : k % 32768 ≡ k = omega arith in
    rw (low, lt-ltb k 32768 b)
label_says k false b =
    let low : k % 32768 ≡ k = omega arith in
    let rest : (32768 + k) - 32768 ≡ k = omega arith in
    let high : ltb (32768 + k) 32768 ≡ false = le-ltb (32768 + k) 32768 (omega arith) in
    rw (low, high, rest)
