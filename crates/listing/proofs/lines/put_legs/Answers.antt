-- One line after another.
use Rattle.std.proofs.Common.{◌≡◌, ℕ, ◌+◌, ◌<◌, ◌≤◌, List, [], ◌++◌, length, get_or, drop, decimal}
use Rattle.std.proofs.lemmas.List.{at_drop_more, at_drop_all}
use Rattle.writing.proofs.Fronts.{all_left, first_fits, others_left, left_as, written}
use Rattle.listing.specs.declared.lines.Amount.{Amount}
use Rattle.listing.specs.Lines.{no_amount, values, leg_lines}
use Rattle.listing.proofs.lines.put_legs.Goals as goal

-- the lines that are left begin with the next one, if any is
next : (k : ℕ) (items : List Amount) (i : ℕ) → i < length items → leg_lines k (drop i items) ≡ (decimal k ++ values (get_or items i no_amount)) ++ leg_lines (k + 1) (drop (i + 1) items)
unfolding leg_lines
next k items i inside = at_drop_more (leg_lines k) items i no_amount inside

none : (k : ℕ) (items : List Amount) (i : ℕ) → length items ≤ i → leg_lines k (drop i items) ≡ []
unfolding leg_lines
none k items i past = at_drop_all (leg_lines k) items i past

pub loop-i-init : goal.loop-i-init
loop-i-init c = all_left _ _ c.requires

pub put_leg-requires : goal.put_leg-requires
put_leg-requires c = first_fits _ _ _ _ _ (left_as _ _ _ _ _ (next (c.loop-i.i + 1) c.args.amounts.now c.loop-i.i c.loop-i-test.true) c.loop-i.invariant)

pub loop-i-preserved : goal.loop-i-preserved
loop-i-preserved c = others_left _ _ _ _ _ _ (left_as _ _ _ _ _ (next (c.loop-i.i + 1) c.args.amounts.now c.loop-i.i c.loop-i-test.true) c.loop-i.invariant) c.put_leg.ensures

pub returns : goal.returns
returns c = written _ _ _ (left_as _ _ _ _ _ (none (c.loop-i.i + 1) c.args.amounts.now c.loop-i.i c.loop-i-test.false) c.loop-i.invariant)
