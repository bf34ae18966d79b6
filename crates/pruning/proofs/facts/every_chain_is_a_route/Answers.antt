use Rattle.pruning.proofs.Pruning.{every_chain_is_a_route, successors_are_leaps, chains_stand_on_open_cells}
use Rattle.pruning.proofs.facts.every_chain_is_a_route.Goals as goal

pub returns : goal.returns
returns c = record { route = every_chain_is_a_route; leaps = successors_are_leaps; stands = chains_stand_on_open_cells }
