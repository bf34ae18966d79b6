use Rattle.std.proofs.Common.{◌≡◌, ℕ, ◌<◌, length, get_or}
use Rattle.floor.specs.Jumps.{jump_of}
use Rattle.source.specs.Labels.{label_of}
use Rattle.source.proofs.labelling.labels.Given as goal

abbrev pub invariant-loop-heading : goal.invariant-loop-heading
invariant-loop-heading g l =
    (length l.all ≡ 8) ×
    ((h : ℕ) → h < l.heading → get_or l.all h 0 ≡ label_of (jump_of (g.S.JumpSource.meaning l.source) l.cell h))
