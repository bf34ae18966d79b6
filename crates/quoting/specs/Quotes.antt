-- What is printed for a sheet.
use Rattle.std.specs.Prelude.{◌≡◌, ℕ, List, length, Some, None, Ok, Err, Option, Result}
use Rattle.floor.specs.declared.Counts.{Counts}
use Rattle.floor.specs.Plans.{legal}
use Rattle.rate.specs.Laws.{AtLeast}
use Rattle.rate.specs.Exact.{exact}
use Rattle.cheapest.specs.Cheapest.{legs, total, Tour, CheapestLegs}
use Rattle.planner.specs.declared.answers.LoopRefusal.{LoopRefusal}
use Rattle.writing.specs.Fronts.{over}
use Rattle.listing.specs.declared.lines.Amount.{Amount}
use Rattle.listing.specs.Lines.{Measures, listing_text}
use Rattle.sheet.specs.declared.Entry.{Entry}
use Rattle.sheet.specs.declared.refusals.Refusal.{Refusal as SheetRefusal}
use Rattle.sheet.specs.Meaning.{Reading, reading_of}
use Rattle.sheet.specs.Run.{run_of}
use Rattle.quoting.specs.declared.faults.Refusal.{Refusal}
use Rattle.quoting.specs.declared.faults.Refusal.TheVariants.{Sheet, Planner}
use Rattle.quoting.specs.declared.quotes.Outcome.{Outcome}
use Rattle.quoting.specs.Faults.{refusal_text}
use Rattle.quoting.specs.Floors.{floor_of, LoopOf}

module _ (before after : List ℕ) (q : Outcome) where
  -- this text stands at the front of the page, and past it the page is as it was
  pub record Printed (text : List ℕ) : Type 0 where
    pub long : q.length ≡ length text
    pub page : after ≡ over text before

  -- a refusal is printed, and answered
  pub record Refused (e : Refusal) : Type 0 where
    pub printed : Printed (refusal_text e)
    pub answered : q.refusal ≡ Some e

  -- the listing of these legs is printed, over cells of a metre
  pub record LegsListed (ns : List Counts) : Type 0 where
    pub amounts : List Amount
    pub measured : Measures 1000 ns amounts
    pub printed : Printed (listing_text amounts)
    pub answered : q.refusal ≡ None

  -- each leg listed is by a cheapest route between its stops, and no route for the whole loop is cheaper
  pub record Listed (es : List Entry) (ns : List Counts) : Type 0 where
    pub listed : LegsListed ns
    pub cheapest : CheapestLegs exact legal (floor_of es) (legs (run_of es)) ns
    pub whole : (ms : List Counts) → Tour legal (floor_of es) (legs (run_of es)) ms → AtLeast exact (total ms) (total ns)

  -- how the answer to a loop is printed
  abbrev pub Shown : List Entry → List Counts → Result Counts LoopRefusal → Type 0
  Shown es ns (Ok n) = Listed es ns
  Shown es ns (Err e) = Refused (Planner e)

  -- the loop through the stops of an accepted sheet is answered, and the answer is printed
  pub record QuotedLoop (es : List Entry) : Type 0 where
    pub counts : List Counts
    pub answer : Result Counts LoopRefusal
    pub told : LoopOf es counts answer
    pub shown : Shown es counts answer

-- what is printed once a sheet is read: its refusal, or the loop that its entries ask for
abbrev pub QuotedAs : List ℕ → List ℕ → Outcome → List Entry → Option SheetRefusal → Type 0
QuotedAs before after q es (Some e) = Refused before after q (Sheet e)
QuotedAs before after q es None = QuotedLoop before after q es

-- the same by a reading, which is of entries and maybe a refusal
abbrev pub QuotedReading : List ℕ → List ℕ → Outcome → Reading → Type 0
QuotedReading before after q r = QuotedAs before after q r.meant r.fault

-- any bytes at all are read, and what they are read as is printed
abbrev pub Quoted : List ℕ → List ℕ → List ℕ → Outcome → Type 0
Quoted sheet before after q = QuotedReading before after q (reading_of sheet 256)

-- What is promised of the page and the outcome, once a refusal, if there is one, is printed: until then the page is as it was.
abbrev pub OncePrinted : (List ℕ → Outcome → Type 0) → List ℕ → List ℕ → Result ℕ Refusal → Type 0
OncePrinted P before after (Ok n) = P after (record { length = n; refusal = None })
OncePrinted P before after (Err e) = (after ≡ before) × ((printed : List ℕ) (q : Outcome) → Refused before printed q e → P printed q)
