-- What is wrong where no listing is written, and that nothing is where one is. Of several faults the first is told:
-- that of the number of legs, of the buffer, of the side, and then of the legs in their order.
use Rattle.std.specs.Prelude.{ℕ, ◌-◌, ◌<◌, ◌≤◌, ◌⊎◌, List, length, take, slice_index_or}
use Rattle.std.specs.List.{All}
use Rattle.floor.specs.declared.Counts.{Counts}
use Rattle.floor.specs.Tally.{none}
use Rattle.rate.specs.Laws.{limit, Within}
use Rattle.listing.specs.declared.lines.ListingRefusal.{ListingRefusal}
use Rattle.listing.specs.declared.lines.ListingRefusal.TheVariants.{LegCount, ShortBuffer, Side, Count}

-- a loop has 2 to 64 legs
pub record OfLoop (legs : List Counts) : Type 0 where
  pub two : 2 ≤ length legs
  pub few : length legs ≤ 64

-- the legs are a loop's, and a buffer of so many bytes has room for every listing
pub record Ready (legs : List Counts) (room : ℕ) : Type 0 where
  pub loop : OfLoop legs
  pub bytes : 4096 ≤ room

-- a side is 1 to 2,000 millimetres
pub record OfCell (side : ℕ) : Type 0 where
  pub some : 1 ≤ side
  pub most : side ≤ 2000

-- leg k, counted from 1
abbrev pub leg_at : List Counts → ℕ → Counts
leg_at legs k = slice_index_or legs (k - 1) none

-- one of the two counts lies above the limit, which is 1,048,576
abbrev pub Above : Counts → Type 0
Above x = (limit < x.straight) ⊎ (limit < x.diagonal)

-- leg k is the first that has a count above the limit
pub record FirstAbove (legs : List Counts) (k : ℕ) : Type 0 where
  pub from : 1 ≤ k
  pub to : k ≤ length legs
  pub above : Above (leg_at legs k)
  pub before : All Within (take (k - 1) legs)

-- what each refusal says is wrong, for a side, legs and a buffer of so many bytes; what is asked before it is right
abbrev pub Faulty : ℕ → List Counts → ℕ → ListingRefusal → Type 0
Faulty side legs room LegCount = (length legs < 2) ⊎ (64 < length legs)
Faulty side legs room ShortBuffer = OfLoop legs × (room < 4096)
Faulty side legs room Side = Ready legs room × ((side < 1) ⊎ (2000 < side))
Faulty side legs room (Count k) = Ready legs room × OfCell side × FirstAbove legs k

-- nothing is wrong
pub record Faultless (side : ℕ) (legs : List Counts) (room : ℕ) : Type 0 where
  pub ready : Ready legs room
  pub cell : OfCell side
  pub counts : All Within legs
