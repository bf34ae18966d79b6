-- The space, and then the number.
use Rattle.std.proofs.Common.{codes, decimal}
use Rattle.writing.specs.Values.{value}
use Rattle.writing.proofs.Fronts.{all_left, first_fits, others_left}
use Rattle.writing.proofs.Front+u8.put_value.Goals as goal

pub put-requires : goal.put-requires
unfolding value
put-requires c = first_fits _ _ _ (codes " ") (decimal c.args.number) (all_left _ _ c.requires)

pub put_number-requires : goal.put_number-requires
unfolding value
put_number-requires c = (others_left _ _ _ (codes " ") (decimal c.args.number) _ (all_left _ _ c.requires) c.put.ensures).fits

pub returns : goal.returns
unfolding value
returns c = (others_left _ _ _ (codes " ") (decimal c.args.number) _ (all_left _ _ c.requires) c.put.ensures).rest _ c.put_number.ensures
