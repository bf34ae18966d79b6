use Rattle.std.proofs.Common.{rules}
use Rattle.floor.proofs.Steps.{no_cell_open}
use Rattle.source.proofs.ground.Ground.is_free_on.Goals as goal

pub returns : goal.returns
returns g c =
    let closed = no_cell_open _ (g.Self.Ground.small c.args.self.now) c.args.cell c.args.towards in
    search (rules, closed)
