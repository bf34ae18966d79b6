use Rattle.std.proofs.Common.{refl, None}
use Rattle.table.proofs.Places.{placed_in, off_cell, off_holds}
use Rattle.table.proofs.mending.Table.put_right.Goals as goal

pub returns-in_default-clause-put : goal.returns-in_default-clause-put
returns-in_default-clause-put c = (refl, off_holds _ _ _ _ _ (off_cell _ _ c.args.cell (placed_in _ _ c.view-view.ensures.0 c.args.cell None c.in_default.ensures.placed)))
