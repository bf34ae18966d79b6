use Rattle.floor.proofs.Legal.{legal_fair}
use Rattle.floor.proofs.Kept.{routes_keep, sixteen_thousand}
use Rattle.floor.proofs.facts.routes_keep.Goals as goal

pub returns : goal.returns
returns c = record { legal = legal_fair; keep = routes_keep; few = sixteen_thousand }
