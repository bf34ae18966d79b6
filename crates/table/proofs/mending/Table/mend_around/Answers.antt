use Rattle.std.proofs.Common.{refl}
use Rattle.table.proofs.Walks.{looked, next_around}
use Rattle.table.proofs.mending.Table.mend_around.Goals as goal

pub loop-side-preserved : goal.loop-side-preserved
loop-side-preserved c = next_around _ _ _ _ c.loop-side-test.true c.loop-side.invariant (looked _ _ refl c.stepped.ensures c.mend_from.ensures)
