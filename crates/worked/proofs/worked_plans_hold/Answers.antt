use Rattle.worked.proofs.Passing.{table_holds}
use Rattle.worked.proofs.worked_plans_hold.Goals as goal

pub returns : goal.returns
returns c = table_holds
