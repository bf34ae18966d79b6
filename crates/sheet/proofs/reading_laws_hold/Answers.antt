-- The laws are proved in Told and Written.
use Rattle.sheet.proofs.Written.{reading_laws}
use Rattle.sheet.proofs.reading_laws_hold.Goals as goal

pub returns : goal.returns
returns c = reading_laws
