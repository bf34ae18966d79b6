use Rattle.std.proofs.Common.{length, ap, arith}
use Rattle.search.proofs.Queues as queues
use Rattle.search.proofs.run.Goals as goal

pub reach_goal-requires-clause-queued : goal.reach_goal-requires-clause-queued
reach_goal-requires-clause-queued g c =
    let es = c.clear.new.entries in
    let numbered = (g.G.Graph.sound c.args.graph.now).numbered in
    let sized = c.requires.sized in
    let room = ap length c.new.ensures.slots in
    record {
      few = omega arith;
      roomy = omega arith;
      queue = rw c.new.ensures.empty (queues.empty (g.R.Rate.order c.args.rate.now) es c.clear.ensures);
    }
