-- The listing of a loop: a line of names, a line for each leg, and a line for all of them.
use Rattle.std.specs.Prelude.{◌≡◌, ℕ, ◌+◌, ◌^◌, ◌<◌, cond, ◌&&◌, List, [], ◌∷◌, ◌++◌, length, Some, None, Ok, Err, codes, decimal, Option, Result, nat_le}
use Rattle.floor.specs.declared.Counts.{Counts}
use Rattle.floor.specs.Tally.{none, plus}
use Rattle.writing.specs.Fronts.{over}
use Rattle.writing.specs.Values.{last_values}
use Rattle.listing.specs.declared.millimetres.Refusal.{Refusal}
use Rattle.listing.specs.declared.millimetres.Refusal.TheVariants as one
use Rattle.listing.specs.declared.lines.Amount.{Amount}
use Rattle.listing.specs.declared.lines.ListingRefusal.{ListingRefusal}
use Rattle.listing.specs.declared.lines.ListingRefusal.TheVariants.{LegCount, ShortBuffer, Side, Count}
use Rattle.listing.specs.Millimetres.{refusal, Figure}

-- the number of each refusal
abbrev pub listing_number : ListingRefusal → ℕ
listing_number LegCount = 8
listing_number ShortBuffer = 14
listing_number Side = 12
listing_number (Count leg) = 13

-- the leg that a refusal names, from 1; 0 where it names none
abbrev pub listing_leg : ListingRefusal → ℕ
listing_leg LegCount = 0
listing_leg ShortBuffer = 0
listing_leg Side = 0
listing_leg (Count leg) = leg

-- what is refused of leg k, if its figure is: a wrong side is that of all legs, a count is the leg's own
abbrev pub of_leg : ℕ → Refusal → ListingRefusal
of_leg k one.Side = Side
of_leg k one.Count = Count k

-- the refusal of leg k, or else that of a later leg
abbrev pub or_later : ℕ → Option Refusal → Option ListingRefusal → Option ListingRefusal
or_later k (Some e) later = Some (of_leg k e)
or_later k None later = later

-- the first leg, from leg k on, that has no figure for side s
abbrev pub first_refused : ℕ → ℕ → List Counts → Option ListingRefusal
first_refused s k [] = None
first_refused s k (x ∷ xs) = or_later k (refusal s x) (first_refused s (k + 1) xs)

-- The first question that is answered no, if any: are there 2 to 64 legs? Has the buffer 4,096 bytes? Then the side, and the counts leg by leg.
abbrev pub listing_refusal : ℕ → List Counts → ℕ → Option ListingRefusal
listing_refusal s legs room = cond (nat_le 2 (length legs) && nat_le (length legs) 64) (cond (nat_le 4096 room) (first_refused s 1 legs) (Some ShortBuffer)) (Some LegCount)

-- each leg's counts, with their figure
abbrev pub Measures : ℕ → List Counts → List Amount → Type 0
Measures s [] [] = Unit {0}
Measures s [] (a ∷ items) = ⊥
Measures s (x ∷ xs) [] = ⊥
Measures s (x ∷ xs) (a ∷ items) = ((a.counts ≡ x) × Figure s x a.millimetres) × Measures s xs items

-- no steps, and no millimetres
abbrev pub no_amount : Amount
no_amount = record { counts = none; millimetres = 0 }

-- two amounts that are small enough to be added
pub record AddsUp (a b : Amount) : Type 0 where
  pub straights : a.counts.straight + b.counts.straight < 2 ^ 32
  pub diagonals : a.counts.diagonal + b.counts.diagonal < 2 ^ 32
  pub millimetres : a.millimetres + b.millimetres < 2 ^ 64

-- one amount and another
abbrev pub plus_amount : Amount → Amount → Amount
plus_amount a b = record { counts = plus a.counts b.counts; millimetres = a.millimetres + b.millimetres }

-- all counts together, and the sum of the legs' figures
abbrev pub in_all : List Amount → Amount
in_all [] = no_amount
in_all (a ∷ items) = plus_amount a (in_all items)

-- the values of a line after its name
abbrev pub values : Amount → List ℕ
values a = last_values (a.counts.straight ∷ a.counts.diagonal ∷ a.millimetres ∷ [])

-- the lines of the legs from number k on
unfoldable pub leg_lines : ℕ → List Amount → List ℕ
leg_lines k [] = []
leg_lines k (a ∷ items) = (decimal k ++ values a) ++ leg_lines (k + 1) items

-- the names of the columns
unfoldable pub names_line : List ℕ
names_line = codes "leg straight diagonal mm" ++ 10 ∷ []

-- the whole text
unfoldable pub listing_text : List Amount → List ℕ
listing_text items = names_line ++ (leg_lines 1 items ++ (codes "all" ++ values (in_all items)))

-- The text stands at the front of a buffer, as long as is answered, and past it the buffer is as it was.
pub record Shown (s : ℕ) (legs : List Counts) (before after : List ℕ) (n : ℕ) : Type 0 where
  pub amounts : List Amount
  pub measured : Measures s legs amounts
  pub answered : n ≡ length (listing_text amounts)
  pub written : after ≡ over (listing_text amounts) before

-- what a listing is answered; refused, it leaves the buffer as it was
abbrev pub Listed : ℕ → List Counts → List ℕ → List ℕ → Result ℕ ListingRefusal → Type 0
Listed s legs before after (Err e) = (listing_refusal s legs (length before) ≡ Some e) × (after ≡ before)
Listed s legs before after (Ok n) = (listing_refusal s legs (length before) ≡ None) × Shown s legs before after n
