use Rattle.std.proofs.Common.{◌≡◌, ap, ◌∙◌, subst, arith}
use Rattle.search.specs.declared.graph.Position.TheVariants.{Place}
use Rattle.floor.specs.Tally.{steps}
use Rattle.search.specs.Mark.{key, standing, marks, finished}
use Rattle.search.proofs.Backward.{Walked}
use Rattle.search.proofs.Marks as written
use Rattle.search.proofs.Backward as back
use Rattle.search.proofs.hops.Goals as goal

pub loop-at-init : goal.loop-at-init
unfolding finished
loop-at-init g c =
    let gr = c.args.graph.now in
    back.sets_out (g.G.Graph.size gr) (g.G.Graph.out gr) (g.G.Graph.sound gr).fits (marks c.args.entries.now) c.requires.traced c.args.place c.requires.finished

pub bounds-entries-here : goal.bounds-entries-here
bounds-entries-here g c =
    let gr = c.args.graph.now in
    let out = g.G.Graph.out gr in
    let es = c.args.entries.now in
    let p = c.args.place in
    let w : Walked out (marks es) p (Place c.in-Place.here) c.loop-at.count = subst (λ q. Walked out (marks es) p q c.loop-at.count) c.in-Place.is c.loop-at.invariant in
    written.standing_inside es (Place c.in-Place.here) w.base w.here

pub overflow_add-count : goal.overflow_add-count
unfolding finished
overflow_add-count g c =
    let gr = c.args.graph.now in
    let b = back.bound (g.G.Graph.size gr) (g.G.Graph.out gr) (g.G.Graph.sound gr).fits (marks c.args.entries.now) c.requires.traced c.args.place c.requires.finished in
    let f = c.loop-at.invariant.few in
    omega arith

pub loop-at-preserved : goal.loop-at-preserved
unfolding finished
loop-at-preserved g c =
    let gr = c.args.graph.now in
    let out = g.G.Graph.out gr in
    let es = c.args.entries.now in
    let p = c.args.place in
    let w : Walked out (marks es) p (Place c.in-Place.here) c.loop-at.count = subst (λ q. Walked out (marks es) p q c.loop-at.count) c.in-Place.is c.loop-at.invariant in
    back.goes_on (g.G.Graph.size gr) out (g.G.Graph.sound gr).fits (marks es) c.requires.traced p c.requires.finished c.in-Place.here c.loop-at.count w c.reached-at.result (c.reached-at.ensures ∙ written.done_way es c.in-Place.here w.base w.here)

pub loop-at-smaller : goal.loop-at-smaller
unfolding finished
loop-at-smaller g c =
    let gr = c.args.graph.now in
    let out = g.G.Graph.out gr in
    let es = c.args.entries.now in
    let p = c.args.place in
    let w : Walked out (marks es) p (Place c.in-Place.here) c.loop-at.count = subst (λ q. Walked out (marks es) p q c.loop-at.count) c.in-Place.is c.loop-at.invariant in
    let less = back.fewer (g.G.Graph.size gr) out (g.G.Graph.sound gr).fits (marks es) c.requires.traced p c.requires.finished c.in-Place.here c.loop-at.count w c.reached-at.result (c.reached-at.ensures ∙ written.done_way es c.in-Place.here w.base w.here) in
    let e : steps (key (standing (marks es) c.loop-at.at)) ≡ steps w.base.counts = ap (λ q. steps (key (standing (marks es) q))) c.in-Place.is ∙ ap (λ x. steps (key x)) w.here in
    omega arith

pub returns : goal.returns
unfolding finished
returns g c =
    let gr = c.args.graph.now in
    let s = marks c.args.entries.now in
    back.comes_home (g.G.Graph.size gr) (g.G.Graph.out gr) (g.G.Graph.sound gr).fits s c.requires.traced c.args.place c.requires.finished c.loop-at.count
    (subst (λ q. Walked (g.G.Graph.out gr) s c.args.place q c.loop-at.count) c.in_default.is c.loop-at.invariant)
