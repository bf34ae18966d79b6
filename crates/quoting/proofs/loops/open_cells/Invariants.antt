-- The cells of the entries so far are open.
use Rattle.std.proofs.Common.{◌≡◌, take}
use Rattle.source.specs.Drawing.{opened}
use Rattle.quoting.specs.Floors.{cells_of}
use Rattle.quoting.proofs.loops.open_cells.Given as goal

abbrev pub invariant-loop-entry : goal.invariant-loop-entry
invariant-loop-entry g l =
    (g.S.JumpSource.meaning l.planner.source ≡ opened (g.S.JumpSource.meaning l.initial.planner.source) (cells_of (take l.entry-index l.entries))) × (l.planner.rate ≡ l.initial.planner.rate)
