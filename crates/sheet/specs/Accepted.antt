-- What every accepted sheet has, in the words of the floor.
use Rattle.std.specs.Prelude.{◌≡◌, ℕ, ◌+◌, ◌<◌, ◌≤◌, List, length, ◌≢◌, slice_index_or}
use Rattle.sheet.specs.declared.Entry.{Entry}
use Rattle.sheet.specs.declared.Mark.TheVariants.{Panel}
use Rattle.sheet.specs.Meaning.{marked}

-- entries of a whole sheet: cells of a floor of 16 by 16, each named once, one of them the panel, one entry to a line from line 2 on
pub record Accepted (es : List Entry) : Type 0 where
  pub rows : (i : ℕ) (d : Entry) → i < length es → (slice_index_or es i d).cell.row ≤ 15
  pub cols : (i : ℕ) (d : Entry) → i < length es → (slice_index_or es i d).cell.col ≤ 15
  pub apart : (i j : ℕ) (d : Entry) → i < j → j < length es → (slice_index_or es i d).cell ≢ (slice_index_or es j d).cell
  pub numbered : (i : ℕ) (d : Entry) → i < length es → (slice_index_or es i d).line ≡ i + 2
  pub panel : length (marked Panel es) ≡ 1
