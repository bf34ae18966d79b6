-- The laws are proved in Laws.
use Rattle.sheet.proofs.Laws.{format_laws}
use Rattle.sheet.proofs.format_laws_hold.Goals as goal

pub returns : goal.returns
returns c = format_laws
