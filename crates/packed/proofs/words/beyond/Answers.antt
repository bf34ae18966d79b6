use Rattle.packed.proofs.Digits.{after_place, before_place}
use Rattle.packed.proofs.words.beyond.Goals as goal

pub returns-in-Forward : goal.returns-in-Forward
returns-in-Forward c = λ i h. rw c.in-Forward.is (after_place c.args.place i c.requires h)

pub returns-in-Backward : goal.returns-in-Backward
returns-in-Backward c = λ i h. rw c.in-Backward.is (before_place c.args.place i c.requires h)
