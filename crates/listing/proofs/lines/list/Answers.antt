-- The legs are measured before anything is written, and what is written always fits.
use Rattle.std.proofs.Common.{◌≡◌, ◌≤◌, List, length, take, sym, refl, ap, ◌∙◌, subst, arith, rules}
use Rattle.std.proofs.lemmas.Grind.{common_steps}
use Rattle.std.proofs.lemmas.Result.{err_from_is_err_and}
use Rattle.writing.specs.Fronts.{Fits, Added}
use Rattle.writing.proofs.Fronts.{at_front, all_written, first_written}
use Rattle.listing.specs.declared.lines.Amount.{Amount}
use Rattle.listing.specs.Lines.{in_all, listing_text}
use Rattle.listing.specs.declared.lines.ListingRefusal.TheVariants.{LegCount, ShortBuffer}
use Rattle.listing.proofs.Faulty.{faulty, faultless}
use Rattle.listing.proofs.Listings.{legs_asked, listing_short}
use Rattle.listing.proofs.lines.list.Goals as goal
use Rattle.listing.proofs.lines.list.Goals.{In_ok-total}

-- what is written of the amounts is all of them
items : (c : In_ok-total) → take c.measure.new.amounts.len c.measure.new.amounts.list.now ≡ c.in_ok-total.ensures.0
items c = first_written _ _ _ c.new-amounts.ensures.none c.in_ok-total.ensures.4

pub put_listing-requires : goal.put_listing-requires
put_listing-requires c =
    let legs = c.args.legs.now in
    let measured = c.in_ok-total.ensures in
    let same = c.written.ensures ∙ items (goal.at.put_listing-requires c).In_ok-total in
    let few : length legs ≤ 64 = grind (arith, common_steps) in
    let fits = listing_short c.args.side legs _ measured.1 measured.2 few in
    let none = c.new-page.ensures.none in
    let long = ap length c.new-page.ensures.list in
    record {
      room = subst (λ (l : List Amount). Fits c.new-page.result (listing_text l)) (sym same) (record { room = omega arith });
      total = measured.3 ∙ ap in_all (sym same);
    }

pub returns-then-not-contains-clause-refused : goal.returns-then-not-contains-clause-refused
returns-then-not-contains-clause-refused c = faulty c.args.side c.args.legs.now (length c.args.buffer.now) LegCount (search rules)

pub returns-then-buffer-lt-ROOM-clause-refused : goal.returns-then-buffer-lt-ROOM-clause-refused
returns-then-buffer-lt-ROOM-clause-refused c = faulty c.args.side c.args.legs.now (length c.args.buffer.now) ShortBuffer (search rules)

pub returns-in_err-total-clause-refused : goal.returns-in_err-total-clause-refused
returns-in_err-total-clause-refused c =
    let legs = c.args.legs.now in
    let p = err_from_is_err_and c.from_residual.result c.from_residual.ensures.1 in
    rw (p.1, p.2) (faulty c.args.side legs _ _ (legs_asked c.args.side legs _ (grind (arith, common_steps)) (grind (arith, common_steps)) c.if-buffer-lt-ROOM.false ∙ c.in_err-total.ensures))

pub returns-clause-faultless : goal.returns-clause-faultless
returns-clause-faultless c =
    let legs = c.args.legs.now in
    faultless c.args.side legs _ (legs_asked c.args.side legs _ (grind (arith, common_steps)) (grind (arith, common_steps)) c.if-buffer-lt-ROOM.false ∙ c.in_ok-total.ensures.1)

pub returns-clause-listed : goal.returns-clause-listed
returns-clause-listed c =
    let legs = c.args.legs.now in
    let measured = c.in_ok-total.ensures in
    let same = c.written.ensures ∙ items (goal.at.returns-clause-listed c).In_ok-total in
    let added = subst (λ (l : List Amount). Added c.new-page.result (listing_text l) c.put_listing.new.page) same c.put_listing.ensures in
    let shown = at_front _ (listing_text measured.0) _ _ (all_written _ _ _ _ _ _ c.new-page.ensures.none c.new-page.ensures.list added refl refl) in
    let same-lender = added.same ∙ c.new-page.ensures.lent in
    let page = shown.0 in (
      legs_asked c.args.side legs _ (grind (arith, common_steps)) (grind (arith, common_steps)) c.if-buffer-lt-ROOM.false ∙ measured.1,
      record { amounts = measured.0; measured = measured.2; answered = c.len.ensures ∙ shown.1; written = grind (arith, common_steps) },
    )
