use Rattle.std.proofs.Common.{cond}
use Rattle.floor.specs.Plane.{diagonal, opposite}
use Rattle.table.specs.Tables.{MendsOn, seed_at}
use Rattle.table.proofs.Walks.{ahead}
use Rattle.table.proofs.mending.Table.+mend_from.Given as goal

-- a straight walk follows diagonal ones, and these follow none
abbrev pub decreases-mend_from : goal.decreases-mend_from
decreases-mend_from l = cond (diagonal l.towards) 0 1

-- of the seed that the walk began with there is left the one where it stands
abbrev pub invariant-loop-at : goal.invariant-loop-at
invariant-loop-at l = MendsOn l.initial.self (seed_at l.initial.at l.towards) l.self (seed_at l.at l.towards)

abbrev pub decreases-loop-at : goal.decreases-loop-at
decreases-loop-at l = ahead l.self.size (opposite l.towards) l.at
