use Rattle.std.proofs.Common.{cond, eqb, sym, ap, ◌∙◌}
use Rattle.packed.specs.Bits.{bit}
use Rattle.packed.proofs.Digits.{sets, clears}
use Rattle.packed.proofs.words.with_bit.Goals as goal

pub returns-then-set : goal.returns-then-set
returns-then-set c = λ i h. sets c.args.word c.args.place i c.requires h ∙ ap (λ b. cond (eqb i c.args.place) b (bit c.args.word i)) (sym c.if-set.true)

pub returns-else-set : goal.returns-else-set
returns-else-set c = λ i h. clears c.args.word c.args.place i c.requires h ∙ ap (λ b. cond (eqb i c.args.place) b (bit c.args.word i)) (sym c.if-set.false)
