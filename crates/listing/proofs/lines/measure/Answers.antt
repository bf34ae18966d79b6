-- One leg after another, until one is refused.
use Rattle.std.proofs.Common.{◌≡◌, ℕ, ◌+◌, ◌<◌, ◌≤◌, List, [], ◌∷◌, ◌++◌, length, take, sym, refl, ap, ◌∙◌, subst, arith}
use Rattle.std.proofs.lemmas.List.{take_more, take_all, length-take-le, length-append}
use Rattle.std.proofs.lemmas.Result.{err_from_is_err_and}
use Rattle.floor.specs.declared.Counts.{Counts}
use Rattle.writing.specs.declared.Front.{Front}
use Rattle.writing.specs.Fronts.{Fits}
use Rattle.writing.proofs.Fronts.{added_none, both_written, fits_next}
use Rattle.listing.specs.declared.lines.Amount.{Amount}
use Rattle.listing.specs.Lines.{first_refused, Measures, plus_amount}
use Rattle.listing.proofs.Listings.{as_many, measures_more, in_all_more, fine_more, refused_here, Few, few_one, few_all}
use Rattle.listing.proofs.lines.measure.Goals as goal

-- there is room for one amount more
room : (s : ℕ) (legs : List Counts) (i : ℕ) (start : Front Amount) (items : List Amount) (a : Amount) → i < length legs → Measures s (take i legs) items → start.len + length legs ≤ length start.list.now → Fits start (items ++ a ∷ [])
room s legs i start items a inside measured enough =
    let many = as_many s (take i legs) items measured in
    let so_far = length-take-le i legs (omega arith) in
    let whole = length-append items (a ∷ []) in
    record { room = omega arith }

pub loop-i-init : goal.loop-i-init
loop-i-init c = ([], refl, tt, refl, added_none _)

pub returns-in_err-amount : goal.returns-in_err-amount
returns-in_err-amount c =
    let p = err_from_is_err_and c.from_residual.result c.from_residual.ensures.1 in
    let refused = c.in_err-amount.ensures in
    rw (p.1, p.2) (refused_here c.args.side c.args.legs.now c.loop-i.i _ refused.0 _ c.loop-i-test.true c.loop-i.invariant.1 refused.1 refused.2)

pub put-requires : goal.put-requires
put-requires c = fits_next _ _ _ _ (room c.args.side c.args.legs.now c.loop-i.i _ c.loop-i.invariant.0 _ c.loop-i-test.true c.loop-i.invariant.2 c.requires.room) c.loop-i.invariant.4

-- the total so far, and one leg
pub add-total-requires : goal.add-total-requires
add-total-requires c =
    let legs = c.args.legs.now in
    let i = c.loop-i.i in
    let leg = c.in_ok-amount.ensures in
    let one = few_one c.args.side _ c.in_ok-amount.amount leg.0 leg.1 leg.2 in
    let so_far = few_all c.args.side 1 (take i legs) c.loop-i.invariant.0 c.loop-i.invariant.1 c.loop-i.invariant.2 in
    let few = subst (Few (length (take i legs))) (sym c.loop-i.invariant.3) so_far in
    let long = length-take-le i legs (omega arith) in
    let bound = c.requires.few in
    record { straights = omega arith; diagonals = omega arith; millimetres = omega arith }

pub loop-i-preserved : goal.loop-i-preserved
loop-i-preserved c =
    let legs = c.args.legs.now in
    let items = c.loop-i.invariant.0 in
    let i = c.loop-i.i in
    let a = c.in_ok-amount.amount in
    let leg = c.in_ok-amount.ensures in
    let more = take_more legs i (record { straight = 0; diagonal = 0 }) c.loop-i-test.true in (
      items ++ a ∷ [],
      ap (first_refused c.args.side 1) more ∙ fine_more c.args.side 1 (take i legs) _ c.loop-i.invariant.1 leg.0,
      subst (λ (xs : List Counts). Measures c.args.side xs (items ++ a ∷ [])) (sym more) (measures_more c.args.side (take i legs) items _ a c.loop-i.invariant.2 leg.1 leg.2),
      c.add-total.ensures ∙ ap (λ (t : Amount). plus_amount t a) c.loop-i.invariant.3 ∙ sym (in_all_more items a),
      both_written _ _ _ _ _ (room c.args.side legs i _ items a c.loop-i-test.true c.loop-i.invariant.2 c.requires.room) c.loop-i.invariant.4 c.put.ensures,
    )

pub returns : goal.returns
returns c =
    let legs = c.args.legs.now in
    let whole : take c.loop-i.i legs ≡ legs = take_all c.loop-i.i legs c.loop-i-test.false in (
      c.loop-i.invariant.0,
      ap (first_refused c.args.side 1) (sym whole) ∙ c.loop-i.invariant.1,
      subst (λ (xs : List Counts). Measures c.args.side xs c.loop-i.invariant.0) whole c.loop-i.invariant.2,
      c.loop-i.invariant.3,
      c.loop-i.invariant.4,
    )
