use Rattle.packed.proofs.Digits.{reads}
use Rattle.packed.proofs.words.is_set.Goals as goal

pub returns : goal.returns
returns c = reads c.args.word c.args.place
