-- The leg's number, and then its values.
use Rattle.std.proofs.Common.{decimal}
use Rattle.writing.proofs.Fronts.{all_left, others_left}
use Rattle.listing.specs.Lines.{values}
use Rattle.listing.proofs.lines.put_leg.Goals as goal

pub returns : goal.returns
returns c = (others_left _ _ _ (decimal c.args.leg) (values c.args.amount) _ (all_left _ _ c.requires) c.put_number.ensures).rest _ c.put_values.ensures
