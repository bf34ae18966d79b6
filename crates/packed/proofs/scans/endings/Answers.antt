use Rattle.packed.proofs.Scanning.{ends_word}
use Rattle.packed.proofs.scans.endings.Goals as goal

pub returns : goal.returns
returns c = λ i h. ends_word c.args.lines.now c.args.way c.args.word i _ _ c.requires h (c.openings.ensures i h) (c.openings-2.ensures i h)
