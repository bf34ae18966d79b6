-- The stops are the run of the sheet, and the legs written are those that were measured.
use Rattle.std.proofs.Common.{◌≡◌, ℕ, ◌-◌, List, length, take, drop, None, Ok, Err, Result, sym, refl, ap, ◌∙◌, subst, arith}
use Rattle.std.specs.Result.{MatchResult, IsErrAnd}
use Rattle.std.proofs.lemmas.List.{take_at}
use Rattle.std.proofs.lemmas.Result.{MatchResult-at_ok}
use Rattle.floor.specs.declared.Cell.{Cell}
use Rattle.floor.specs.declared.Counts.{Counts}
use Rattle.floor.specs.Plans.{Plan, Sized, legal}
use Rattle.rate.specs.Exact.{exact}
use Rattle.cheapest.specs.Cheapest.{legs}
use Rattle.planner.specs.declared.answers.LoopRefusal.{LoopRefusal}
use Rattle.planner.specs.Loops.{LoopTold, NoCheaperTour}
use Rattle.planner.specs.Touring.{Toured}
use Rattle.planner.proofs.Legs.{legs_length}
use Rattle.writing.specs.Fronts.{over}
use Rattle.writing.proofs.Fronts.{first_written, first_length}
use Rattle.listing.specs.declared.lines.ListingRefusal.{ListingRefusal}
use Rattle.listing.specs.Lines.{listing_refusal, Listed}
use Rattle.sheet.specs.Run.{run_of}
use Rattle.quoting.specs.Floors.{floor_of}
use Rattle.quoting.specs.Quotes.{LegsListed, QuotedLoop, OncePrinted}
use Rattle.quoting.proofs.Floors.{floor_sized}
use Rattle.quoting.proofs.Answered.{Whole, whole, as_many, never_refused}
use Rattle.quoting.proofs.quotes.list_loop.Goals as goal

-- what stands at the front of a list that was written over
front : {X : Type 0} (piece old list : List X) (n : ℕ) → list ≡ over piece old → n ≡ length piece → take (n - 0) list ≡ piece
front piece old list n e long = ap (take (n - 0)) e ∙ take_at piece (drop (length piece) old) (n - 0) (omega arith)

-- a loop that was answered, through the stops at the front of a list
module _ (p : Plan) (z : Sized p) (run stops : List Cell) (same : stops ≡ run) (before after : List Counts) (r : Result Counts LoopRefusal) (t : Toured exact legal p stops 2048 2048 before after r) where
  told : LoopTold exact legal p run 2048 2048 (length before) t.measured r
  told = subst (λ (cells : List Cell). LoopTold exact legal p cells 2048 2048 (length before) t.measured r) same t.told

  module _ (n : Counts) (is : r ≡ Ok n) where
    answered : Whole p run t.measured n
    answered =
        whole p run 2048 2048 (length before) t.measured n (subst (LoopTold exact legal p run 2048 2048 (length before) t.measured) is told)
        (subst (NoCheaperTour exact legal p run) is (subst (λ (cells : List Cell). NoCheaperTour exact legal p cells r) same t.whole))

    written : (count : ℕ) → count ≡ length run → take (count - 0) after ≡ t.measured
    written count long =
        let many = as_many p (legs run) t.measured answered.cheapest in
        let legs = legs_length run in
        front t.measured before after count t.written (omega arith)

-- where the error of an answer was exchanged, it is an answer still
still : {T E F : Type 0} (r : Result T E) (s : Result T F) (Q : E → F → Type 0) (x : T) → MatchResult r (λ y. s ≡ Ok y) (λ e. IsErrAnd s (Q e)) → s ≡ Ok x → r ≡ Ok x
still (Ok y) s Q x h is = cc
still (Err e) (Ok y) Q x h is = absurd h
still (Err e) (Err f) Q x h is = cc

-- a listing that is not refused is printed
printed : (ns : List Counts) (before after : List ℕ) (r : Result ℕ ListingRefusal) → listing_refusal 1000 ns (length before) ≡ None → Listed 1000 ns before after r → (n : ℕ) × (r ≡ Ok n) × LegsListed before after (record { length = n; refusal = None }) ns
printed ns before after (Ok n) fine l = (n, refl, record { amounts = l.1.amounts; measured = l.1.measured; printed = record { long = l.1.answered; page = l.1.written }; answered = refl })
printed ns before after (Err e) fine l = let both = l.0 in cc

pub returns-clause-quoted : goal.returns-clause-quoted
returns-clause-quoted c =
    let es = c.args.entries.now in
    let page = c.args.page.now in
    let z = floor_sized es c.requires.accepted in
    let run = c.put_run.ensures.cells in
    let stops = c.written.ensures ∙ first_written _ _ _ c.new-stops.ensures.none run in
    let count = c.len.ensures ∙ first_length _ _ _ c.new-stops.ensures.none run in
    let n = c.in_ok-map_err.field-0 in
    let is = still _ _ _ n c.map_err.ensures.cases c.in_ok-map_err.was in
    let done = answered (floor_of es) z (run_of es) _ stops _ _ _ c.tour.ensures.told n is in
    let legs = written (floor_of es) z (run_of es) _ stops _ _ _ c.tour.ensures.told n is c.len.result count in
    let room : length page ≡ 4096 = omega arith in
    let fine = ap (λ (m : ℕ). listing_refusal 1000 c.tour.ensures.told.measured m) room ∙ never_refused (floor_of es) z (run_of es) _ n done in
    let text = printed _ page _ _ fine (subst (λ (ns : List Counts). Listed 1000 ns page c.list.new.buffer c.list.result) legs c.list.ensures.listed) in
    subst (OncePrinted (λ after q. QuotedLoop page after q es) page c.list.new.buffer) (sym (MatchResult-at_ok _ _ text.0 text.1 c.map_err-2.ensures.cases))
    (record {
      counts = c.tour.ensures.told.measured;
      answer = Ok n;
      told = subst (λ (r : Result Counts LoopRefusal). LoopTold exact legal (floor_of es) (run_of es) 2048 2048 64 c.tour.ensures.told.measured r) is (told (floor_of es) z (run_of es) _ stops _ _ _ c.tour.ensures.told);
      shown = record { listed = text.2; cheapest = done.cheapest; whole = done.least };
    })
