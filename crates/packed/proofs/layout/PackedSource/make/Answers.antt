use Rattle.std.proofs.Common.{refl, arith}
use Rattle.source.proofs.Laid.{size_got}
use Rattle.packed.proofs.Making.{made_laid, made_by}
use Rattle.packed.proofs.layout.PackedSource.make.Goals as goal

pub invariant_of-result : goal.invariant_of-result
invariant_of-result c =
    let gets = size_got c.args.rows c.args.cols _ _ _ _ c.check.ensures.answer c.check.ensures.size (refl, refl) c.unwrap_or-size.ensures in
    record { laid = made_laid c.args.rows c.args.cols c.args.memory.now _ c.unwrap_or-size.result _ gets c.words_needed.ensures (omega arith) (c.fill.ensures.after (λ y e. e)) }

pub returns-clause-plan : goal.returns-clause-plan
returns-clause-plan c =
    let gets = size_got c.args.rows c.args.cols _ _ _ _ c.check.ensures.answer c.check.ensures.size (refl, refl) c.unwrap_or-size.ensures in
    made_by c.args.rows c.args.cols c.args.memory.now _ c.unwrap_or-size.result _ gets c.words_needed.ensures (omega arith) (c.fill.ensures.after (λ y e. e))
