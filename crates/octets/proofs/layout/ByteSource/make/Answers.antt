use Rattle.std.proofs.Common.{refl}
use Rattle.source.proofs.Laid.{size_got}
use Rattle.octets.proofs.Memory.{made_by}
use Rattle.octets.proofs.layout.ByteSource.make.Goals as goal

pub returns-clause-plan : goal.returns-clause-plan
returns-clause-plan c =
    made_by c.args.rows c.args.cols _ _ c.unwrap_or-size.result _ c.cells.ensures (c.fill.ensures.after (λ y e. e)) (size_got c.args.rows c.args.cols _ _ _ _ c.check.ensures.answer c.check.ensures.size (refl, refl) c.unwrap_or-size.ensures)
