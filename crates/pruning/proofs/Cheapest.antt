-- Under a rate: a rival is cut down to distinct cells, and a chain dominates what is left of it within the limit.
use Rattle.std.proofs.Common.{◌≤◌, arith}
use Rattle.floor.specs.declared.Counts.{Counts}
use Rattle.floor.specs.Tally.{steps, Dominates}
use Rattle.floor.specs.Plane.{point}
use Rattle.floor.specs.Plans.{legal}
use Rattle.floor.specs.Facts.{Simple}
use Rattle.floor.proofs.Legal.{legal_fair}
use Rattle.floor.proofs.Kept.{shorten, sixteen_thousand}
use Rattle.rate.specs.Laws.{Within}
use Rattle.rate.proofs.Derived.{part, dominance}
use Rattle.pruning.specs.Cheapest.{ShortChain, RoutesHaveShortChains, CheapestChainIsCheapest}
use Rattle.pruning.proofs.Pruning.{no_cheaper_run_is_lost}

-- few steps are within the limit
few_within : (n : Counts) → steps n ≤ 16383 → Within n
few_within n b = (omega arith, omega arith)

pub routes_have_short_chains : RoutesHaveShortChains
routes_have_short_chains p sized s t n r =
    let cut : Simple legal p (point s) (point t) n = shorten legal legal_fair p (point s) (point t) n r in
    let few : steps cut.counts ≤ 16383 = sixteen_thousand p sized (steps cut.counts) cut.few in
    let e = no_cheaper_run_is_lost p s t cut.counts cut.route in
    let d : Dominates e.0 cut.counts = e.2 in
    record {
      counts = e.0;
      chain = e.1;
      few = omega (arith, d.fewer, cut.few);
      cheap = λ order law. law.passes n cut.counts e.0
          (part order law cut.counts n (record { straights = cut.straights; diagonals = cut.diagonals }))
          (dominance order law e.0 cut.counts (few_within e.0 (omega (arith, d.fewer))) (few_within cut.counts few) d);
    }

pub cheapest_chain_is_cheapest : CheapestChainIsCheapest
cheapest_chain_is_cheapest order law p sized s t m least n r =
    let c : ShortChain p s t n = routes_have_short_chains p sized s t n r in
    law.passes n c.counts m (c.cheap order law) (least c.counts c.chain c.few)
