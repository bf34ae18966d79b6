use Rattle.cheapest.proofs.Rivals.{rivals}
use Rattle.cheapest.proofs.no_rival_escapes.Goals as goal

pub returns : goal.returns
returns g c = rivals (g.R.Rate.order c.args.rate.now) (g.R.Rate.lawful c.args.rate.now)
