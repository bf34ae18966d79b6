-- One value after another, and the line feed.
use Rattle.std.proofs.Common.{◌≡◌, ℕ, ◌+◌, ◌<◌, ◌≤◌, List, [], ◌∷◌, ◌++◌, length, get_or, drop}
use Rattle.std.proofs.lemmas.List.{at_drop_more, at_drop_all}
use Rattle.writing.specs.Values.{value, last_values}
use Rattle.writing.proofs.Fronts.{all_left, first_fits, others_left, left_as}
use Rattle.writing.proofs.Front+u8.put_last_values.Goals as goal

-- the values that are left begin with the next one, if any is
next : (numbers : List ℕ) (i : ℕ) → i < length numbers → last_values (drop i numbers) ≡ value (get_or numbers i 0) ++ last_values (drop (i + 1) numbers)
unfolding last_values
next numbers i inside = at_drop_more last_values numbers i 0 inside

last : (numbers : List ℕ) (i : ℕ) → length numbers ≤ i → last_values (drop i numbers) ≡ 10 ∷ []
unfolding last_values
last numbers i past = at_drop_all last_values numbers i past

pub loop-number-init : goal.loop-number-init
loop-number-init c = all_left _ _ c.requires

pub put_value-requires : goal.put_value-requires
put_value-requires c = first_fits _ _ _ _ _ (left_as _ _ _ _ _ (next c.args.numbers.now _ c.loop-number-test.true) c.loop-number.invariant)

pub loop-number-preserved : goal.loop-number-preserved
loop-number-preserved c = others_left _ _ _ _ _ _ (left_as _ _ _ _ _ (next c.args.numbers.now _ c.loop-number-test.true) c.loop-number.invariant) c.put_value.ensures

pub put-requires : goal.put-requires
put-requires c = (left_as _ _ _ _ _ (last c.args.numbers.now _ c.loop-number-test.false) c.loop-number.invariant).fits

pub returns : goal.returns
returns c = (left_as _ _ _ _ _ (last c.args.numbers.now _ c.loop-number-test.false) c.loop-number.invariant).rest _ c.put.ensures
