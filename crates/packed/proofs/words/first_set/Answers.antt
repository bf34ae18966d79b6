use Rattle.std.proofs.Common.{ap, ◌∙◌, arith}
use Rattle.std.proofs.lemmas.Bool.{ltb-true}
use Rattle.packed.specs.Bits.{bit}
use Rattle.packed.proofs.Digits.{bit_none, lowest, highest}
use Rattle.packed.proofs.words.first_set.Goals as goal

pub returns-then-word-eq0 : goal.returns-then-word-eq0
returns-then-word-eq0 c = λ i h. ap (λ w. bit w i) c.if-word-eq0.true ∙ bit_none i

pub returns-in-Forward : goal.returns-in-Forward
returns-in-Forward c =
    let low = lowest c.args.word (omega arith) (omega arith) in
    (low.0, low.1, λ i h s. low.2 i (ltb-true _ _ (rw c.in-Forward.is at s)))

pub returns-in-Backward : goal.returns-in-Backward
returns-in-Backward c =
    let high = highest c.args.word (omega arith) (omega arith) in
    (high.0, high.1, λ i h s. high.2 i (ltb-true _ _ (rw c.in-Backward.is at s)))
