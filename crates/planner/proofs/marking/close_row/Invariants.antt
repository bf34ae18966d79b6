use Rattle.std.proofs.Common.{◌≡◌}
use Rattle.planner.specs.Shutting.{shut_row}
use Rattle.planner.proofs.marking.close_row.Given as goal

abbrev pub invariant-loop-col : goal.invariant-loop-col
invariant-loop-col g l =
    (g.S.JumpSource.meaning l.source ≡ shut_row (g.S.JumpSource.meaning l.initial.source) l.row l.col) ×
    g.S.JumpSource.lent l.initial.source l.source
