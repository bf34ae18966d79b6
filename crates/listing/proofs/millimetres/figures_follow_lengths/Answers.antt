use Rattle.listing.proofs.Figures.{one_figure, no_dearer_no_longer}
use Rattle.listing.proofs.millimetres.figures_follow_lengths.Goals as goal

pub returns : goal.returns
returns c = record { one = one_figure; longer = no_dearer_no_longer }
