use Rattle.std.proofs.Common.{refl}
use Rattle.floor.specs.Tally.{counts}
use Rattle.listing.proofs.Figures.{measured_figure, two_diagonals}
use Rattle.listing.proofs.millimetres.two_diagonal_metres.Goals as goal

pub returns : goal.returns
returns c = measured_figure 1000 (counts 0 2) _ 2829 refl two_diagonals c.millimetres.ensures
