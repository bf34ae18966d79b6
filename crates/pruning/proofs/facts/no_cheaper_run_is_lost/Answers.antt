use Rattle.pruning.proofs.Pruning.{no_cheaper_run_is_lost, same_reach}
use Rattle.pruning.proofs.facts.no_cheaper_run_is_lost.Goals as goal

pub returns : goal.returns
returns c = record { dominated = no_cheaper_run_is_lost; reach = same_reach }
