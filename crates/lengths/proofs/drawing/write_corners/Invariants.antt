use Rattle.std.proofs.Common.{◌≡◌, List, get_or}
use Rattle.floor.specs.declared.Cell.{Cell}
use Rattle.floor.specs.Tally.{steps}
use Rattle.search.specs.Mark.{marks, way, blank}
use Rattle.places.specs.Leaps.{cell_of}
use Rattle.lengths.specs.Trail.{Trail}
use Rattle.lengths.proofs.Writing.{Writing}
use Rattle.lengths.proofs.drawing.write_corners.Given as goal

abbrev pub invariant-loop-from : goal.invariant-loop-from
invariant-loop-from g l =
    (l.from ≡ (way (get_or l.entries l.at blank)).from) ×
    ((cs : List Cell) → Trail l.cols l.start (marks l.entries) l.place cs →
    Writing l.cols l.start (marks l.entries) cs (cell_of l.cols l.place) l.at l.count l.initial.corners l.corners)

abbrev pub decreases-loop-from : goal.decreases-loop-from
decreases-loop-from g l = steps (way (get_or l.entries l.at blank)).counts
