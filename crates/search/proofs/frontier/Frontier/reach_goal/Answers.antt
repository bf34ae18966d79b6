use Rattle.std.proofs.Common.{sym, refl, ap, ◌∙◌, arith}
use Rattle.std.proofs.lemmas.Bool.{both_ways}
use Rattle.search.specs.Mark.{is_done, is_waiting, marks, finished}
use Rattle.search.proofs.Steps as walk
use Rattle.search.proofs.Marks as written
use Rattle.search.proofs.Outcome as outcome
use Rattle.search.proofs.frontier.Frontier.reach_goal.Goals as goal

pub loop-place-init : goal.loop-place-init
unfolding finished
loop-place-init g c =
    let gr = c.args.graph.now in
    let f = c.args.self.now in
    let clean = c.requires.clean in
    record {
      standing = record { search = walk.begins (g.G.Graph.size gr) (g.G.Graph.out gr) (g.G.Graph.sound gr).fits (g.R.Rate.order f.rate.now) (g.R.Rate.lawful f.rate.now) (marks f.entries.now) clean; queued = c.requires.queued };
      missed = λ k d. absurd (both_ways _ (ap is_done (clean k)) d);
      counted = written.finishes_none f.entries.now clean;
      same = record { rate = refl; size = refl; lender = refl };
    }

pub returns-in_err-place-clause-answered : goal.returns-in_err-place-clause-answered
unfolding finished
returns-in_err-place-clause-answered g c =
    let gr = c.args.graph.now in
    let l = c.loop-place in
    let f = c.follow_all.new.self in
    let r = c.follow_all.ensures in
    rw c.from_residual.ensures
    (outcome.missing (g.G.Graph.size gr) (g.G.Graph.out gr) (g.G.Graph.goal gr) (g.G.Graph.sound gr) (g.R.Rate.order f.rate.now) (g.R.Rate.lawful f.rate.now) (marks f.entries.now) l.from l.base r.standing.search
    (λ j b w. both_ways _ (c.in_err-place.ensures.first j) (ap is_waiting w))
    (λ k d. l.invariant.missed k (sym (ap (λ h. h k) r.finished) ∙ d)))

pub overflow_add-finished : goal.overflow_add-finished
overflow_add-finished g c =
    let l = c.loop-place in
    let r = c.follow_all.ensures in
    let f = c.in_ok-place.ensures in
    let es' = c.finish_first.new.self.entries.now in
    let up = written.finishes_next l.self.entries.now c.follow_all.new.self.entries.now es' c.in_ok-place.place _ r.finished f.new f.first.waits f.first.within r.same.size f.same.size in
    let low = written.finishes_le es' in
    let few = f.queued.few in
    let counted = l.invariant.counted in
    omega arith

pub returns-then-is_goal-clause-answered : goal.returns-then-is_goal-clause-answered
returns-then-is_goal-clause-answered g c =
    let gr = c.args.graph.now in
    let l = c.loop-place in
    let r = c.follow_all.ensures in
    let f = c.in_ok-place.ensures in
    let order = g.R.Rate.order c.follow_all.new.self.rate.now in
    let law = g.R.Rate.lawful c.follow_all.new.self.rate.now in
    let es = c.follow_all.new.self.entries.now in
    let es' = c.finish_first.new.self.entries.now in
    let p = c.in_ok-place.place in
    let up = written.finishes_next l.self.entries.now es es' p _ r.finished f.new f.first.waits f.first.within r.same.size f.same.size in
    let t = outcome.turn (g.G.Graph.size gr) (g.G.Graph.out gr) (g.G.Graph.goal gr) (g.G.Graph.sound gr) order law l.self.entries.now es es' l.from l.base c.reached-base.result p r.finished r.standing.search f.first f.new c.reached-base.ensures l.invariant.missed in
    let counted = l.invariant.counted in
    rw (sym (r.same.rate ∙ l.invariant.same.rate)) (outcome.found (g.G.Graph.size gr) (g.G.Graph.out gr) (g.G.Graph.goal gr) (g.G.Graph.sound gr) order law (marks es') p c.reached-base.result t.search (sym c.if-is_goal.ensures) t.missed_else, omega arith)

pub loop-place-smaller : goal.loop-place-smaller
loop-place-smaller g c =
    let l = c.loop-place in
    let r = c.follow_all.ensures in
    let f = c.in_ok-place.ensures in
    let es' = c.finish_first.new.self.entries.now in
    let up = written.finishes_next l.self.entries.now c.follow_all.new.self.entries.now es' c.in_ok-place.place _ r.finished f.new f.first.waits f.first.within r.same.size f.same.size in
    let low = written.finishes_le es' in
    let size = f.same.size ∙ r.same.size ∙ l.invariant.same.size in
    omega arith

pub loop-place-preserved : goal.loop-place-preserved
unfolding finished
loop-place-preserved g c =
    let gr = c.args.graph.now in
    let l = c.loop-place in
    let r = c.follow_all.ensures in
    let f = c.in_ok-place.ensures in
    let order = g.R.Rate.order c.follow_all.new.self.rate.now in
    let law = g.R.Rate.lawful c.follow_all.new.self.rate.now in
    let es = c.follow_all.new.self.entries.now in
    let es' = c.finish_first.new.self.entries.now in
    let p = c.in_ok-place.place in
    let up = written.finishes_next l.self.entries.now es es' p _ r.finished f.new f.first.waits f.first.within r.same.size f.same.size in
    let t = outcome.turn (g.G.Graph.size gr) (g.G.Graph.out gr) (g.G.Graph.goal gr) (g.G.Graph.sound gr) order law l.self.entries.now es es' l.from l.base c.reached-base.result p r.finished r.standing.search f.first f.new c.reached-base.ensures l.invariant.missed in
    let counted = l.invariant.counted in
    record {
      standing = record { search = rw f.same.rate t.search; queued = f.queued };
      missed = t.missed_all (sym c.if-is_goal.ensures);
      counted = omega arith;
      same = record { rate = f.same.rate ∙ r.same.rate ∙ l.invariant.same.rate; size = f.same.size ∙ r.same.size ∙ l.invariant.same.size; lender = f.same.lender ∙ r.same.lender ∙ l.invariant.same.lender };
    }
