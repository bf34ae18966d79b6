use Rattle.std.proofs.Common.{sym, subst}
use Rattle.floor.specs.Plane.{point}
use Rattle.pruning.specs.Successors.{Sighted}
use Rattle.pruning.proofs.Shifts.{sighted_across, sighted_down, sighted_not_across, sighted_not_down, sighted_nearer}
use Rattle.pruning.proofs.successors.sighting.Goals as goal

pub returns-then-cell-target : goal.returns-then-cell-target
returns-then-cell-target c =
    sighted_across _ _ _ _ _ c.down-down.ensures c.across-across.ensures _ c.in-Same-default.is-0 c.if-cell-target.true c.steps_between-cols.ensures

pub returns-else-cell-target : goal.returns-else-cell-target
returns-else-cell-target c =
    sighted_not_across _ _ _ _ _ c.down-down.ensures c.across-across.ensures c.in-Same-default.is-0 c.if-cell-target.false

pub returns-then-cell-target-2 : goal.returns-then-cell-target-2
returns-then-cell-target-2 c =
    sighted_down _ _ _ _ _ c.down-down.ensures c.across-across.ensures _ c.in_default-Same.is-1 c.if-cell-target-2.true c.steps_between-rows.ensures

pub returns-else-cell-target-2 : goal.returns-else-cell-target-2
returns-else-cell-target-2 c =
    sighted_not_down _ _ _ _ _ c.down-down.ensures c.across-across.ensures c.in_default-Same.is-1 c.if-cell-target-2.false

pub returns-in_default : goal.returns-in_default
returns-in_default c =
    subst (Sighted (point c.args.target) c.args.heading (point c.args.cell)) (sym c.nearer.ensures)
    (sighted_nearer _ _ _ _ _ c.down-down.ensures c.across-across.ensures _ _ c.in_default.not-Same-0 c.in_default.not-Same-1 c.steps_between-rows.ensures c.steps_between-cols.ensures)
