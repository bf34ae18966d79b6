-- The questions have passed; then either nothing is searched, or the search says what is cheapest.
use Rattle.std.proofs.Common.{◌≡◌, ◌≤◌, [], length, take, None, sym, ◌∙◌, subst, arith}
use Rattle.std.proofs.lemmas.List.{length-take-le}
use Rattle.std.proofs.lemmas.Bool.{both_ways}
use Rattle.floor.specs.declared.Cell.{Cell}
use Rattle.floor.specs.declared.Counts.{Counts}
use Rattle.floor.specs.Plans.{legal}
use Rattle.cheapest.specs.Cheapest.{Cheapest}
use Rattle.search.specs.Mark.{marks}
use Rattle.places.specs.Leaps.{same_cell}
use Rattle.places.proofs.Numbers.{same_cell_is, same_cell_from}
use Rattle.lengths.specs.Questions.{first_no, length_questions, places}
use Rattle.lengths.proofs.Asked.{Passed, passed, told_cost, told_none}
use Rattle.lengths.proofs.Told.{stay, found, nowhere}
use Rattle.lengths.proofs.Entries.{searched, idle}
use Rattle.lengths.proofs.measuring.measure.Goals as goal

pub returns-then-eq-clause-told : goal.returns-then-eq-clause-told
returns-then-eq-clause-told g c =
    let order = g.R.Rate.order c.args.rate.now in
    let p = g.S.JumpSource.meaning c.args.source.now in
    let s = c.args.start in
    let t = c.args.target in
    let n = c.stay.result in
    let w = length c.args.work.now.entries.now in
    let v = length c.args.work.now.waiting.now in
    let q : first_no (length_questions p s t w v) ≡ None = (λ i. first_no (length_questions p s t (sym c.of.ensures.entries i) (sym c.of.ensures.waiting i))) ∙ sym c.in_ok-check.ensures in
    let ok : Passed p s t w v = (passed p s t w v [] q).0 in
    let e : s ≡ t = same_cell_is s t (sym c.if-eq.ensures) in
    let best : Cheapest order legal p s t n.counts =
    subst (λ (x : Cell). Cheapest order legal p s x n.counts) e
    (subst (λ (k : Counts). Cheapest order legal p s s k) (sym c.stay.ensures.nothing.0) (stay order (g.R.Rate.lawful c.args.rate.now) p s ok.start_open)) in
    told_cost order legal p s t (first_no (length_questions p s t w v)) q n.counts best

pub returns-then-eq-clause-searched : goal.returns-then-eq-clause-searched
returns-then-eq-clause-searched g c =
    let p = g.S.JumpSource.meaning c.args.source.now in
    let e : c.args.start ≡ c.args.target = same_cell_is c.args.start c.args.target (sym c.if-eq.ensures) in
    idle (g.R.Rate.order c.args.rate.now) p c.args.start c.args.target (take (places p) c.stay.new.entries) e c.stay.ensures.cleared c.stay.result c.stay.ensures.nothing.1

pub returns-clause-told : goal.returns-clause-told
returns-clause-told g c =
    let order = g.R.Rate.order c.args.rate.now in
    let p = g.S.JumpSource.meaning c.args.source.now in
    let z = g.S.JumpSource.sized c.args.source.now in
    let s = c.args.start in
    let t = c.args.target in
    let k = c.in-Some.found in
    let es = take (places p) c.reach.new.work.entries.now in
    let w = length c.args.work.now.entries.now in
    let v = length c.args.work.now.waiting.now in
    let q : first_no (length_questions p s t w v) ≡ None = (λ i. first_no (length_questions p s t (sym c.of.ensures.entries i) (sym c.of.ensures.waiting i))) ∙ sym c.in_ok-check.ensures in
    let ok : Passed p s t w v = (passed p s t w v [] q).0 in
    let ne : s ≡ t → ⊥ = λ e. both_ways (same_cell s t) (sym c.if-eq.ensures) (same_cell_from s t e) in
    let best : Cheapest order legal p s t k.counts = found order (g.R.Rate.lawful c.args.rate.now) p z s t ne ok.start_open (marks es) k.place k.counts c.in-Some.ensures.answered.0 in
    told_cost order legal p s t (first_no (length_questions p s t w v)) q c.from.result.counts (subst (λ (n : Counts). Cheapest order legal p s t n) (sym c.from.ensures.0) best)

pub returns-clause-searched : goal.returns-clause-searched
returns-clause-searched g c =
    let order = g.R.Rate.order c.args.rate.now in
    let p = g.S.JumpSource.meaning c.args.source.now in
    let s = c.args.start in
    let t = c.args.target in
    let k = c.in-Some.found in
    let es = take (places p) c.reach.new.work.entries.now in
    let w = length c.args.work.now.entries.now in
    let v = length c.args.work.now.waiting.now in
    let q : first_no (length_questions p s t w v) ≡ None = (λ i. first_no (length_questions p s t (sym c.of.ensures.entries i) (sym c.of.ensures.waiting i))) ∙ sym c.in_ok-check.ensures in
    let ok : Passed p s t w v = (passed p s t w v [] q).0 in
    let ne : s ≡ t → ⊥ = λ e. both_ways (same_cell s t) (sym c.if-eq.ensures) (same_cell_from s t e) in
    let f = c.in-Some.ensures.answered in
    let fits : places p ≤ length c.reach.new.work.entries.now = omega (arith, ok.entries_fit, c.reach.ensures.rest.lists.places) in
    let full : length es ≡ places p = length-take-le (places p) c.reach.new.work.entries.now fits in
    searched order p s t es k.place k.counts f.0 ne full c.from.result c.from.ensures.0 (c.from.ensures.1 ∙ f.1)

pub returns-in_default-clause-told : goal.returns-in_default-clause-told
returns-in_default-clause-told g c =
    let order = g.R.Rate.order c.args.rate.now in
    let p = g.S.JumpSource.meaning c.args.source.now in
    let z = g.S.JumpSource.sized c.args.source.now in
    let s = c.args.start in
    let t = c.args.target in
    let w = length c.args.work.now.entries.now in
    let v = length c.args.work.now.waiting.now in
    let q : first_no (length_questions p s t w v) ≡ None = (λ i. first_no (length_questions p s t (sym c.of.ensures.entries i) (sym c.of.ensures.waiting i))) ∙ sym c.in_ok-check.ensures in
    let ne : s ≡ t → ⊥ = λ e. both_ways (same_cell s t) (sym c.if-eq.ensures) (same_cell_from s t e) in
    told_none order legal p s t (first_no (length_questions p s t w v)) q (nowhere order (g.R.Rate.lawful c.args.rate.now) p z s t ne c.in_default.ensures.answered)
