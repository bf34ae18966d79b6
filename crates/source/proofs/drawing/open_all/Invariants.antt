use Rattle.std.proofs.Common.{◌≡◌, take}
use Rattle.source.specs.Drawing.{opened}
use Rattle.source.proofs.drawing.open_all.Given as goal

abbrev pub invariant-loop-cell : goal.invariant-loop-cell
invariant-loop-cell g l =
    (g.S.JumpSource.meaning l.source ≡ opened (g.S.JumpSource.meaning l.initial.source) (take l.cell-index l.cells)) ×
    g.S.JumpSource.lent l.initial.source l.source
