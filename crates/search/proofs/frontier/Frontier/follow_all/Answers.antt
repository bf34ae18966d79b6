-- Each turn follows the edge of its place among those that were given, if there is one and it does not lead too far.
use Rattle.std.proofs.Common.{◌≡◌, ◌<◌, ◌≤◌, Some, sym, ap, ◌∙◌, subst, arith}
use Rattle.floor.specs.declared.Counts.{Counts}
use Rattle.floor.specs.Tally.{steps, plus}
use Rattle.search.specs.Chain.{Inside, most}
use Rattle.search.specs.Mark.{reached, marks, finished}
use Rattle.search.specs.Search.{Noted}
use Rattle.search.proofs.Marks as written
use Rattle.search.proofs.Steps as walk
use Rattle.search.proofs.frontier.Frontier.follow_all.Goals as goal
use Rattle.search.proofs.frontier.Frontier.follow_all.Goals.{then-counts-le-MOST_STEPS, else-counts-le-MOST_STEPS}

pub edges-requires : goal.edges-requires
edges-requires g c = subst (λ n. Inside n c.args.from) c.requires.sized (written.standing_inside c.args.self.now.entries.now c.args.from c.args.base c.requires.standing.search.here)

pub add-counts-requires : goal.add-counts-requires
add-counts-requires g c =
    let gr = c.args.graph.now in
    let f = c.loop-edge.self in
    let turn = c.loop-edge.edge-index in
    let few = walk.few_steps (g.G.Graph.size gr) (g.G.Graph.out gr) (g.G.Graph.sound gr).fits (g.R.Rate.order f.rate.now) (g.R.Rate.lawful f.rate.now) (marks f.entries.now) c.args.from c.args.base turn c.loop-edge.invariant.0.search c.in-Some.edge (sym (c.edges.ensures turn c.loop-edge-test.true) ∙ c.in-Some.is) in
    let a = few.0 in
    let b = few.1 in
    (omega arith, omega arith)

pub overflow_add-counts : goal.overflow_add-counts
overflow_add-counts g c =
    let gr = c.args.graph.now in
    let f = c.loop-edge.self in
    let turn = c.loop-edge.edge-index in
    let few = walk.few_steps (g.G.Graph.size gr) (g.G.Graph.out gr) (g.G.Graph.sound gr).fits (g.R.Rate.order f.rate.now) (g.R.Rate.lawful f.rate.now) (marks f.entries.now) c.args.from c.args.base turn c.loop-edge.invariant.0.search c.in-Some.edge (sym (c.edges.ensures turn c.loop-edge-test.true) ∙ c.in-Some.is) in
    let a = few.0 in
    let b = few.1 in
    let x = ap (λ (z : Counts). z.straight) c.add-counts.ensures in
    let y = ap (λ (z : Counts). z.diagonal) c.add-counts.ensures in
    omega arith

pub loop-edge-preserved : goal.loop-edge-preserved
unfolding finished
loop-edge-preserved g c =
    let gr = c.args.graph.now in
    let f = c.loop-edge.self in
    let order = g.R.Rate.order f.rate.now in
    let q = c.args.from in
    let base = c.args.base in
    let turn = c.loop-edge.edge-index in
    let e = c.in-Some.edge in
    let kept = c.loop-edge.invariant in
    let s = marks f.entries.now in
    let total : c.add-counts.result ≡ plus base.counts e.counts = c.add-counts.ensures in
    let is : g.G.Graph.out gr q turn ≡ Some e = sym (c.edges.ensures turn c.loop-edge-test.true) ∙ c.in-Some.is in
    elim c.if-counts-le-MOST_STEPS.branch [
      | then-counts-le-MOST_STEPS w ↦
          let s' = marks w.note.new.self.entries.now in
          let r = w.note.ensures in
          let low : steps (plus base.counts e.counts) ≤ most = subst (λ (x : Counts). steps x ≤ most) total w.if-counts-le-MOST_STEPS.true in
          let n : Noted order s s' e.to (reached (plus base.counts e.counts) q) = subst (λ x. Noted order s s' e.to (reached x q)) total r.noted in
          rw w.self-is (
            record {
              search = rw r.same.rate (walk.follow (g.G.Graph.size gr) (g.G.Graph.out gr) (g.G.Graph.sound gr).fits order (g.R.Rate.lawful f.rate.now) s s' q base turn e kept.0.search c.loop-edge-test.true is low n);
              queued = r.queued;
            },
            walk.noted_finished order s s' e.to _ n ∙ kept.1,
            record { rate = r.same.rate ∙ kept.2.rate; size = r.same.size ∙ kept.2.size; lender = r.same.lender ∙ kept.2.lender },
          )
      | else-counts-le-MOST_STEPS w ↦
          let far : most < steps (plus base.counts e.counts) = subst (λ (x : Counts). most < steps x) total w.if-counts-le-MOST_STEPS.false in
          rw w.self-is (
            record {
              search = walk.too_far (g.G.Graph.size gr) (g.G.Graph.out gr) (g.G.Graph.sound gr).fits order (g.R.Rate.lawful f.rate.now) s q base turn e kept.0.search is far;
              queued = kept.0.queued;
            },
            kept.1,
            kept.2,
          )
    ]
