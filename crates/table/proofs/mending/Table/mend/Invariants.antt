use Rattle.std.proofs.Common.{drop}
use Rattle.floor.specs.Plane.{point}
use Rattle.table.specs.Equations.{seeds_of, all_seeds, straight_first}
use Rattle.table.specs.Tables.{MendsOn}
use Rattle.table.proofs.mending.Table.mend.Given as goal

-- the seeds of the headings that are left
abbrev pub invariant-loop-towards : goal.invariant-loop-towards
invariant-loop-towards l = MendsOn l.initial.self (all_seeds (point l.cell)) l.self (seeds_of (point l.cell) (drop l.towards-index straight_first))
