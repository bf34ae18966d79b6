use Rattle.std.proofs.Common.{rules}
use Rattle.floor.proofs.Steps.{no_cell_open}
use Rattle.pruning.proofs.goings.is_open_on.Goals as goal

pub returns : goal.returns
returns g c =
    let closed = no_cell_open _ (g.S.JumpSource.sized c.args.source.now) c.args.cell c.args.towards in
    search (rules, closed)
