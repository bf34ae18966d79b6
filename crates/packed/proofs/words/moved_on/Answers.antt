use Rattle.std.proofs.Common.{arith}
use Rattle.packed.proofs.Digits.{carries_up, carries_down}
use Rattle.packed.proofs.words.moved_on.Goals as goal

pub returns-in-Forward : goal.returns-in-Forward
returns-in-Forward c = λ i h. rw c.in-Forward.is (carries_up c.args.word c.args.last (omega arith) i h)

pub returns-in-Backward : goal.returns-in-Backward
returns-in-Backward c = λ i h. rw c.in-Backward.is (carries_down c.args.word c.args.last (omega arith) i h)
