use Rattle.table.specs.Equations.{straight_first}
use Rattle.table.proofs.Walks.{next_of, all_of}
use Rattle.table.proofs.mending.Table.mend.Goals as goal

pub loop-towards-preserved : goal.loop-towards-preserved
loop-towards-preserved c = next_of _ straight_first _ c.loop-towards-test.true c.loop-towards.invariant c.mend_heading.ensures

pub returns : goal.returns
returns c = all_of _ straight_first _ c.loop-towards-test.false c.loop-towards.invariant
