use Rattle.std.proofs.Common.{◌≡◌}
use Rattle.history.proofs.Running.{Underway}
use Rattle.history.proofs.runs.replay.Given as goal

-- the calls so far are put, under the one rate
abbrev pub invariant-loop-call : goal.invariant-loop-call
invariant-loop-call g l = record {
  run : Underway g.S.JumpSource.meaning g.S.JumpSource.lent g.S.JumpSource.intact (g.R.Rate.order l.initial.planner.rate) (record { plan = g.S.JumpSource.meaning l.initial.planner.source })
      l.calls (record { source = l.initial.planner.source; entries = l.initial.entries; waiting = l.initial.waiting }) l.initial.corners l.initial.legs l.initial.answers
      l.done (record { source = l.planner.source; entries = l.entries; waiting = l.waiting }) l.corners l.legs l.answers l.bends l.measured;
  turn : l.done ≡ l.call-index;
  rate : l.planner.rate ≡ l.initial.planner.rate;
  kept : g.S.JumpSource.lent l.initial.planner.source l.planner.source;
}
