use Rattle.std.proofs.Common.{◌≡◌}
use Rattle.planner.specs.Shutting.{shut_rows}
use Rattle.planner.proofs.marking.close_all.Given as goal

abbrev pub invariant-loop-row : goal.invariant-loop-row
invariant-loop-row g l =
    (g.S.JumpSource.meaning l.source ≡ shut_rows (g.S.JumpSource.meaning l.initial.source) l.row) ×
    g.S.JumpSource.lent l.initial.source l.source
