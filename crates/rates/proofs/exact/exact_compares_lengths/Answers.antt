use Rattle.rate.proofs.Lengths.{ordered_by_length}
use Rattle.rates.proofs.exact.exact_compares_lengths.Goals as goal

pub returns : goal.returns
returns c = ordered_by_length
