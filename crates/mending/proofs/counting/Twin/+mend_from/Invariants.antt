use Rattle.std.proofs.Common.{cond}
use Rattle.floor.specs.Plane.{diagonal}
use Rattle.mending.proofs.counting.Twin.+mend_from.Given as goal

-- a straight walk follows diagonal ones, and these follow none
abbrev pub decreases-mend_from : goal.decreases-mend_from
decreases-mend_from l = cond (diagonal l.towards) 0 1

-- the walk ends by its count of steps
abbrev pub invariant-loop : goal.invariant-loop
invariant-loop l = Unit {0}
