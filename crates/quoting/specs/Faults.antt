-- A refusal as it is printed, a line of names and one line of values, and as a sentence.
use Rattle.std.specs.Prelude.{ℕ, List, [], ◌∷◌, ◌++◌, codes, decimal}
use Rattle.sheet.specs.declared.refusals.Figures.{Figures}
use Rattle.sheet.specs.Refusals.{figures_of, sentence as sheet_sentence}
use Rattle.lengths.specs.declared.answers.Refusal.{Refusal as CallRefusal}
use Rattle.lengths.specs.declared.answers.Refusal.TheVariants as call
use Rattle.planner.specs.declared.answers.LoopRefusal.TheVariants as loop
use Rattle.planner.specs.Loops.{loop_number, loop_leg}
use Rattle.listing.specs.declared.lines.ListingRefusal.TheVariants as listing
use Rattle.listing.specs.Lines.{listing_number, listing_leg}
use Rattle.quoting.specs.declared.faults.Fault.{Fault}
use Rattle.quoting.specs.declared.faults.Origin.{Origin}
use Rattle.quoting.specs.declared.faults.Origin.TheVariants as origin
use Rattle.quoting.specs.declared.faults.Refusal.{Refusal}
use Rattle.quoting.specs.declared.faults.Refusal.TheVariants as refusal

-- the word for who refuses
abbrev pub origin_name : Origin → List ℕ
origin_name origin.Sheet = codes "sheet"
origin_name origin.Planner = codes "planner"
origin_name origin.Listing = codes "listing"

-- a sheet's refusal has no leg
abbrev pub sheet_fault : Figures → Fault
sheet_fault f = record { number = f.number; from = origin.Sheet; line = f.line; field = f.field; leg = 0 }

-- a refusal that lies in no sheet has no line and no field
abbrev pub call_fault : Origin → ℕ → ℕ → Fault
call_fault from number leg = record { number = number; from = from; line = 0; field = 0; leg = leg }

-- A refusal's figures, 0 where one does not apply: only a sheet's lies in a line and a field, only the others' in a leg.
abbrev pub fault_of : Refusal → Fault
fault_of (refusal.Sheet e) = sheet_fault (figures_of e)
fault_of (refusal.Planner e) = call_fault origin.Planner (loop_number e) (loop_leg e)
fault_of (refusal.Listing e) = call_fault origin.Listing (listing_number e) (listing_leg e)

-- the line of names, and the line of the values in their order
unfoldable pub fault_line : Fault → List ℕ
fault_line f =
    codes "number from line field leg" ++ (10 ∷ (decimal f.number ++ (codes " " ++ (origin_name f.from ++ (codes " " ++ (decimal f.line ++ (codes " " ++ (decimal f.field ++ (codes " " ++ (decimal f.leg ++ 10 ∷ []))))))))))

-- a refusal as it is printed, by its figures
abbrev pub refusal_text : Refusal → List ℕ
refusal_text e = fault_line (fault_of e)

-- what is wrong with a leg, in words
abbrev pub leg_sentence : CallRefusal → List ℕ
leg_sentence call.Outside = codes "its start is outside the floor"
leg_sentence call.TargetOutside = codes "its end is outside the floor"
leg_sentence call.Closed = codes "its start is closed"
leg_sentence call.TargetClosed = codes "its end is closed"
leg_sentence call.ShortWork = codes "a work list is too short"
leg_sentence call.ShortCorners = codes "the corner list is too short"
leg_sentence call.NoRoute = codes "no legal route leads to its end"

-- each refusal as a sentence; one that lies in a leg says which, from 1
abbrev pub sentence : Refusal → List ℕ
sentence (refusal.Sheet e) = sheet_sentence e
sentence (refusal.Planner loop.CellCount) = codes "a loop has 2 to 64 stops, the panel among them"
sentence (refusal.Planner loop.ShortLegs) = codes "the leg list is too short"
sentence (refusal.Planner (loop.Leg k e)) = codes "leg " ++ (decimal k ++ (codes ": " ++ leg_sentence e))
sentence (refusal.Listing listing.LegCount) = codes "a listing has 2 to 64 legs"
sentence (refusal.Listing listing.ShortBuffer) = codes "the page is too short"
sentence (refusal.Listing listing.Side) = codes "the side of a cell is not 1 to 2000 mm"
sentence (refusal.Listing (listing.Count k)) = codes "leg " ++ (decimal k ++ codes ": a count is above 1048576")
