use Rattle.floor.proofs.Runs.{by_runs, from_runs}
use Rattle.floor.proofs.facts.routes_bend_at_runs.Goals as goal

pub returns : goal.returns
returns c = record { gathered = by_runs; laid = from_runs }
