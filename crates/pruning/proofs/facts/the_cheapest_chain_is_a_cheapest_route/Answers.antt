use Rattle.pruning.proofs.Cheapest.{routes_have_short_chains, cheapest_chain_is_cheapest}
use Rattle.pruning.proofs.facts.the_cheapest_chain_is_a_cheapest_route.Goals as goal

pub returns : goal.returns
returns c = record { short = routes_have_short_chains; cheapest = cheapest_chain_is_cheapest }
