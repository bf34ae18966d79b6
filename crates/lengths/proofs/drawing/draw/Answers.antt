-- The questions have passed; the way back from the target is written, and what lies past it is left.
use Rattle.std.proofs.Common.{◌≡◌, ℕ, ◌*◌, ◌<◌, ◌≤◌, true, ltb, leb, List, [], ◌∷◌, ◌++◌, length, take, drop, None, sym, refl, ap, ◌∙◌, subst, arith, length-append}
use Rattle.std.proofs.lemmas.Nat.{mul-le}
use Rattle.std.proofs.lemmas.List.{length-take-le, take_at, drop_at, take_more_set}
use Rattle.std.proofs.lemmas.Bool.{both_ways, and_parts, leb-true, ltb-true}
use Rattle.floor.specs.declared.Cell.{Cell}
use Rattle.floor.specs.declared.Counts.{Counts}
use Rattle.floor.specs.Plane.{point}
use Rattle.floor.specs.Plans.{Plan, legal, inside}
use Rattle.rate.specs.declared.Comparison.{Comparison}
use Rattle.cheapest.specs.Cheapest.{Cheapest}
use Rattle.search.specs.Mark.{marks}
use Rattle.places.specs.Leaps.{same_cell, cell_of}
use Rattle.places.proofs.Numbers.{same_cell_is, same_cell_from}
use Rattle.lengths.specs.declared.answers.Refusal.TheVariants.{ShortCorners}
use Rattle.lengths.specs.Questions.{ask, first_no, route_questions, places}
use Rattle.lengths.specs.Answers.{Bent}
use Rattle.lengths.proofs.Asked.{Passed, passed, yes_first, told_cost, told_none}
use Rattle.lengths.proofs.Told.{stay, found, nowhere}
use Rattle.lengths.proofs.Entries.{searched, idle}
use Rattle.lengths.proofs.Drawings.{Ready, ready, turned}
use Rattle.lengths.proofs.drawing.draw.Goals as goal

-- what the questions about a route have settled
routed : (p : Plan) (s t : Cell) (w v l : ℕ) → first_no (route_questions p s t w v l) ≡ None → Passed p s t w v × (p.rows * p.cols ≤ l)
routed p s t w v l e =
    let a = passed p s t w v (ask (leb (p.rows * p.cols) l) ShortCorners ∷ []) e in
    (a.0, leb-true (p.rows * p.cols) l (yes_first (ask (leb (p.rows * p.cols) l) ShortCorners) [] a.1).0)

-- a plan with a cell inside has one at least
some_cell : (p : Plan) (s : Cell) → inside p s ≡ true → 1 ≤ p.rows * p.cols
some_cell p s i =
    let a = and_parts (ltb s.row p.rows) (ltb s.col p.cols) i in
    let r = ltb-true s.row p.rows a.0 in
    let c = ltb-true s.col p.cols a.1 in
    let m = mul-le 1 1 p.rows p.cols (omega arith) (omega arith) in
    omega arith

-- the corner of a route that stays where it is
alone : (p : Plan) (s t : Cell) (n : Counts) (order : Counts → Counts → Comparison) → s ≡ t → Cheapest order legal p s t n → n ≡ Rattle.floor.specs.Tally.none → Bent legal p s t n (s ∷ [])
alone p s t n order e best z = record { headings = []; walks = tt; ends = ap point e; counted = sym z; bends = refl }

pub bounds-corners-0 : goal.bounds-corners-0
bounds-corners-0 g c =
    let order = g.R.Rate.order c.args.rate.now in
    let law = g.R.Rate.lawful c.args.rate.now in
    let p = g.S.JumpSource.meaning c.args.source.now in
    let z = g.S.JumpSource.sized c.args.source.now in
    let s = c.args.start in
    let t = c.args.target in
    let w = length c.args.work.now.entries.now in
    let v = length c.args.work.now.waiting.now in
    let old = c.args.corners.now in
    let q : first_no (route_questions p s t w v (length old)) ≡ None = (λ i. first_no (route_questions p s t (sym c.of.ensures.entries i) (sym c.of.ensures.waiting i) (length old))) ∙ sym c.in_ok-check_route.ensures in
    let r = routed p s t w v (length old) q in
    let one = some_cell p s r.0.start_inside in
    let l = r.1 in
    omega arith

pub returns-then-eq-clause-told : goal.returns-then-eq-clause-told
returns-then-eq-clause-told g c =
    let order = g.R.Rate.order c.args.rate.now in
    let law = g.R.Rate.lawful c.args.rate.now in
    let p = g.S.JumpSource.meaning c.args.source.now in
    let z = g.S.JumpSource.sized c.args.source.now in
    let s = c.args.start in
    let t = c.args.target in
    let w = length c.args.work.now.entries.now in
    let v = length c.args.work.now.waiting.now in
    let old = c.args.corners.now in
    let q : first_no (route_questions p s t w v (length old)) ≡ None = (λ i. first_no (route_questions p s t (sym c.of.ensures.entries i) (sym c.of.ensures.waiting i) (length old))) ∙ sym c.in_ok-check_route.ensures in
    let r = routed p s t w v (length old) q in
    let n = c.stay.result in
    let one = some_cell p s r.0.start_inside in
    let room = r.1 in
    let fits : 0 < length old = omega arith in
    let e : s ≡ t = same_cell_is s t (sym c.if-eq.ensures) in
    let best : Cheapest order legal p s t n.counts =
    subst (λ (x : Cell). Cheapest order legal p s x n.counts) e
    (subst (λ (k : Counts). Cheapest order legal p s s k) (sym c.stay.ensures.nothing.0) (stay order law p s r.0.start_open)) in (
      told_cost order legal p s t (first_no (route_questions p s t w v (length old))) q n.counts best,
      subst (λ (xs : List Cell). Bent legal p s t n.counts xs) (sym (take_more_set old 0 s fits)) (alone p s t n.counts order e best c.stay.ensures.nothing.0),
    )

pub returns-then-eq-clause-searched : goal.returns-then-eq-clause-searched
returns-then-eq-clause-searched g c =
    let p = g.S.JumpSource.meaning c.args.source.now in
    let e : c.args.start ≡ c.args.target = same_cell_is c.args.start c.args.target (sym c.if-eq.ensures) in
    idle (g.R.Rate.order c.args.rate.now) p c.args.start c.args.target (take (places p) c.stay.new.entries) e c.stay.ensures.cleared c.stay.result c.stay.ensures.nothing.1

pub returns-in_default-clause-told : goal.returns-in_default-clause-told
returns-in_default-clause-told g c =
    let order = g.R.Rate.order c.args.rate.now in
    let law = g.R.Rate.lawful c.args.rate.now in
    let p = g.S.JumpSource.meaning c.args.source.now in
    let z = g.S.JumpSource.sized c.args.source.now in
    let s = c.args.start in
    let t = c.args.target in
    let w = length c.args.work.now.entries.now in
    let v = length c.args.work.now.waiting.now in
    let old = c.args.corners.now in
    let q : first_no (route_questions p s t w v (length old)) ≡ None = (λ i. first_no (route_questions p s t (sym c.of.ensures.entries i) (sym c.of.ensures.waiting i) (length old))) ∙ sym c.in_ok-check_route.ensures in
    let r = routed p s t w v (length old) q in
    let ne : s ≡ t → ⊥ = λ e. both_ways (same_cell s t) (sym c.if-eq.ensures) (same_cell_from s t e) in
    (told_none order legal p s t (first_no (route_questions p s t w v (length old))) q (nowhere order law p z s t ne c.in_default.ensures.answered), refl)

pub write_corners-count-requires-clause-way : goal.write_corners-count-requires-clause-way
write_corners-count-requires-clause-way g c =
    let order = g.R.Rate.order c.args.rate.now in
    let law = g.R.Rate.lawful c.args.rate.now in
    let p = g.S.JumpSource.meaning c.args.source.now in
    let z = g.S.JumpSource.sized c.args.source.now in
    let s = c.args.start in
    let t = c.args.target in
    let w = length c.args.work.now.entries.now in
    let v = length c.args.work.now.waiting.now in
    let old = c.args.corners.now in
    let q : first_no (route_questions p s t w v (length old)) ≡ None = (λ i. first_no (route_questions p s t (sym c.of.ensures.entries i) (sym c.of.ensures.waiting i) (length old))) ∙ sym c.in_ok-check_route.ensures in
    let r = routed p s t w v (length old) q in
    let ne : s ≡ t → ⊥ = λ e. both_ways (same_cell s t) (sym c.if-eq.ensures) (same_cell_from s t e) in
    let k = c.in-Some.found in
    let es = c.reach.new.work.entries.now in
    let f = c.in-Some.ensures.answered in
    (ready order law p z s t ne r.0.start_open es k.place k.counts f.0 (length old) r.1).way

pub write_corners-count-requires-clause-falls : goal.write_corners-count-requires-clause-falls
write_corners-count-requires-clause-falls g c =
    let order = g.R.Rate.order c.args.rate.now in
    let law = g.R.Rate.lawful c.args.rate.now in
    let p = g.S.JumpSource.meaning c.args.source.now in
    let z = g.S.JumpSource.sized c.args.source.now in
    let s = c.args.start in
    let t = c.args.target in
    let w = length c.args.work.now.entries.now in
    let v = length c.args.work.now.waiting.now in
    let old = c.args.corners.now in
    let q : first_no (route_questions p s t w v (length old)) ≡ None = (λ i. first_no (route_questions p s t (sym c.of.ensures.entries i) (sym c.of.ensures.waiting i) (length old))) ∙ sym c.in_ok-check_route.ensures in
    let r = routed p s t w v (length old) q in
    let ne : s ≡ t → ⊥ = λ e. both_ways (same_cell s t) (sym c.if-eq.ensures) (same_cell_from s t e) in
    let k = c.in-Some.found in
    let es = c.reach.new.work.entries.now in
    let f = c.in-Some.ensures.answered in
    (ready order law p z s t ne r.0.start_open es k.place k.counts f.0 (length old) r.1).falls

pub returns-clause-told : goal.returns-clause-told
returns-clause-told g c =
    let order = g.R.Rate.order c.args.rate.now in
    let law = g.R.Rate.lawful c.args.rate.now in
    let p = g.S.JumpSource.meaning c.args.source.now in
    let z = g.S.JumpSource.sized c.args.source.now in
    let s = c.args.start in
    let t = c.args.target in
    let w = length c.args.work.now.entries.now in
    let v = length c.args.work.now.waiting.now in
    let old = c.args.corners.now in
    let q : first_no (route_questions p s t w v (length old)) ≡ None = (λ i. first_no (route_questions p s t (sym c.of.ensures.entries i) (sym c.of.ensures.waiting i) (length old))) ∙ sym c.in_ok-check_route.ensures in
    let r = routed p s t w v (length old) q in
    let ne : s ≡ t → ⊥ = λ e. both_ways (same_cell s t) (sym c.if-eq.ensures) (same_cell_from s t e) in
    let k = c.in-Some.found in
    let es = c.reach.new.work.entries.now in
    let f = c.in-Some.ensures.answered in
    let h : Ready order law p z s t ne r.0.start_open es k.place k.counts f.0 (length old) = ready order law p z s t ne r.0.start_open es k.place k.counts f.0 (length old) r.1 in
    let cs : List Cell = h.way.0 in
    let all : List Cell = cs ++ cell_of p.cols k.place ∷ [] in
    let written = c.write_corners-count.ensures cs h.way.1 in
    let n = c.write_corners-count.result in
    let long : length all ≡ n = length-append cs (cell_of p.cols k.place ∷ []) ∙ sym written.0 in
    let best : Cheapest order legal p s t k.counts = found order law p z s t ne r.0.start_open (marks (take (places p) es)) k.place k.counts f.0 in
    let bent : Bent legal p s t k.counts (take n c.write_corners-count.new.corners) =
    subst (λ (xs : List Cell). Bent legal p s t k.counts xs) (sym (ap (take n) written.1 ∙ take_at all (drop n old) n long))
    (turned order law p z s t ne r.0.start_open es k.place k.counts f.0 cs h.way.1) in (
      told_cost order legal p s t (first_no (route_questions p s t w v (length old))) q c.from.result.counts (subst (λ (m : Counts). Cheapest order legal p s t m) (sym c.from.ensures.0) best),
      subst (λ (m : Counts). Bent legal p s t m (take n c.write_corners-count.new.corners)) (sym c.from.ensures.0) bent,
    )

pub returns-clause-past : goal.returns-clause-past
returns-clause-past g c =
    let order = g.R.Rate.order c.args.rate.now in
    let law = g.R.Rate.lawful c.args.rate.now in
    let p = g.S.JumpSource.meaning c.args.source.now in
    let z = g.S.JumpSource.sized c.args.source.now in
    let s = c.args.start in
    let t = c.args.target in
    let w = length c.args.work.now.entries.now in
    let v = length c.args.work.now.waiting.now in
    let old = c.args.corners.now in
    let q : first_no (route_questions p s t w v (length old)) ≡ None = (λ i. first_no (route_questions p s t (sym c.of.ensures.entries i) (sym c.of.ensures.waiting i) (length old))) ∙ sym c.in_ok-check_route.ensures in
    let r = routed p s t w v (length old) q in
    let ne : s ≡ t → ⊥ = λ e. both_ways (same_cell s t) (sym c.if-eq.ensures) (same_cell_from s t e) in
    let k = c.in-Some.found in
    let es = c.reach.new.work.entries.now in
    let f = c.in-Some.ensures.answered in
    let h : Ready order law p z s t ne r.0.start_open es k.place k.counts f.0 (length old) = ready order law p z s t ne r.0.start_open es k.place k.counts f.0 (length old) r.1 in
    let cs : List Cell = h.way.0 in
    let all : List Cell = cs ++ cell_of p.cols k.place ∷ [] in
    let written = c.write_corners-count.ensures cs h.way.1 in
    let n = c.write_corners-count.result in
    let long : length all ≡ n = length-append cs (cell_of p.cols k.place ∷ []) ∙ sym written.0 in
    let bound = h.way.2 in
    (omega (arith, written.0), ap (drop n) written.1 ∙ drop_at all (drop n old) n long)

pub returns-clause-searched : goal.returns-clause-searched
returns-clause-searched g c =
    let order = g.R.Rate.order c.args.rate.now in
    let law = g.R.Rate.lawful c.args.rate.now in
    let p = g.S.JumpSource.meaning c.args.source.now in
    let z = g.S.JumpSource.sized c.args.source.now in
    let s = c.args.start in
    let t = c.args.target in
    let w = length c.args.work.now.entries.now in
    let v = length c.args.work.now.waiting.now in
    let old = c.args.corners.now in
    let q : first_no (route_questions p s t w v (length old)) ≡ None = (λ i. first_no (route_questions p s t (sym c.of.ensures.entries i) (sym c.of.ensures.waiting i) (length old))) ∙ sym c.in_ok-check_route.ensures in
    let r = routed p s t w v (length old) q in
    let ne : s ≡ t → ⊥ = λ e. both_ways (same_cell s t) (sym c.if-eq.ensures) (same_cell_from s t e) in
    let k = c.in-Some.found in
    let es = c.reach.new.work.entries.now in
    let f = c.in-Some.ensures.answered in
    let fits : places p ≤ length es = omega (arith, r.0.entries_fit, c.reach.ensures.rest.lists.places) in
    let full : length (take (places p) es) ≡ places p = length-take-le (places p) es fits in
    searched order p s t (take (places p) es) k.place k.counts f.0 ne full c.from.result c.from.ensures.0 (c.from.ensures.1 ∙ f.1)
