use Rattle.history.proofs.Promised.{promises}
use Rattle.history.proofs.laws.runs_keep_their_promises.Goals as goal

pub returns : goal.returns
returns c = promises
