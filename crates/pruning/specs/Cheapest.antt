-- What pruning promises under a rate. Routes may be of any length; the chains that matter have fewer steps than the plan has cells.
use Rattle.std.specs.Prelude.{◌*◌, ◌<◌}
use Rattle.floor.specs.declared.Cell.{Cell}
use Rattle.floor.specs.declared.Counts.{Counts}
use Rattle.floor.specs.Tally.{steps}
use Rattle.floor.specs.Plans.{Plan, Sized}
use Rattle.floor.specs.Routes.{Route}
use Rattle.rate.specs.declared.Comparison.{Comparison}
use Rattle.rate.specs.Laws.{AtLeast, Lawful}
use Rattle.pruning.specs.Claims.{Chained}

-- a chain with fewer steps than the plan has cells, dearer than n under no lawful rate
pub record ShortChain (p : Plan) (s t : Cell) (n : Counts) : Type 0 where
  pub counts : Counts
  pub chain : Chained p s t counts
  pub few : steps counts < p.rows * p.cols
  pub cheap : (order : Counts → Counts → Comparison) → Lawful order → AtLeast order n counts

-- Every legal route has such a chain.
abbrev pub RoutesHaveShortChains : Type 0
RoutesHaveShortChains = (p : Plan) → Sized p → (s t : Cell) (n : Counts) → Route p s t n → ShortChain p s t n

module _ (order : Counts → Counts → Comparison) (p : Plan) (s t : Cell) (m : Counts) where
  -- No such chain to the target is cheaper than m.
  abbrev pub NoChainCheaper : Type 0
  NoChainCheaper = (k : Counts) → Chained p s t k → steps k < p.rows * p.cols → AtLeast order k m

  -- No legal route to the target is cheaper than m.
  abbrev pub NoRouteCheaper : Type 0
  NoRouteCheaper = (n : Counts) → Route p s t n → AtLeast order n m

-- Under every lawful rate, what no chain is cheaper than, no legal route is cheaper than: above all the cheapest chain.
abbrev pub CheapestChainIsCheapest : Type 0
CheapestChainIsCheapest =
    (order : Counts → Counts → Comparison) → Lawful order → (p : Plan) → Sized p → (s t : Cell) (m : Counts) → NoChainCheaper order p s t m → NoRouteCheaper order p s t m
