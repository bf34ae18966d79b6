use Rattle.std.proofs.Common.{drop}
use Rattle.floor.specs.Plane.{point}
use Rattle.table.specs.Tables.{MendsOn, seeds_around}
use Rattle.table.proofs.mending.Table.mend_around.Given as goal

-- the seeds on the sides that are left
abbrev pub invariant-loop-side : goal.invariant-loop-side
invariant-loop-side l = MendsOn l.initial.self (seeds_around (point l.cell) l.sides l.towards) l.self (seeds_around (point l.cell) (drop l.side-index l.sides) l.towards)
