-- Each run keeps its promises; and two that are right at every moment answer alike.
use Rattle.history.proofs.Promised.{alike_runs}
use Rattle.history.proofs.Fresh.{few_of}
use Rattle.history.proofs.runs.replay_both.Goals as goal

pub returns-clause-the_same_for_any_two_sources : goal.returns-clause-the_same_for_any_two_sources
returns-clause-the_same_for_any_two_sources g c = λ size.
    let p = g.S.JumpSource.meaning c.args.first.now in
    alike_runs (g.R.Rate.order c.args.rate.now) (g.R.Rate.lawful c.args.rate.now) p (g.T.JumpSource.meaning c.args.second.now) (few_of p (g.S.JumpSource.sized c.args.first.now)) size c.args.calls.now
    c.replay_fresh-put.result c.replay_fresh.result _ _ c.replay_fresh-put.ensures.promised.cheapest_at_every_moment c.replay_fresh.ensures.promised.cheapest_at_every_moment
