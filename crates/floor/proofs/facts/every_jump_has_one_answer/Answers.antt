use Rattle.std.proofs.Common.{arith}
use Rattle.floor.proofs.Jumps.{jump_is, jump_one, jump_blocked, jump_legal, jump_short}
use Rattle.floor.proofs.facts.every_jump_has_one_answer.Goals as goal

pub returns : goal.returns
returns c =
    record {
      answered = λ p x h. record { is_jump = jump_is p x h; only = jump_one p x h };
      closed = jump_blocked;
      allowed = jump_legal;
      short = λ p s x h. omega (arith, jump_short p 127 (omega (arith, s.few_rows)) (omega (arith, s.few_cols)) x h);
    }
