use Rattle.rate.proofs.Derived.{facts}
use Rattle.rate.proofs.respects_dominance.Goals as goal

pub returns : goal.returns
returns g c = facts (g.R.Rate.order c.args.rate.now) (g.R.Rate.lawful c.args.rate.now)
