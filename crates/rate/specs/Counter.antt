-- The counter rate: a straight step costs 5, a diagonal one 7.
use Rattle.std.specs.Prelude.{ℕ, ◌+◌, ◌*◌}
use Rattle.floor.specs.declared.Counts.{Counts}
use Rattle.rate.specs.declared.Comparison.{Comparison}
use Rattle.rate.specs.Laws.{capped}
use Rattle.rate.specs.Exact.{compared}

-- what counts cost at the counter rate
abbrev pub price : Counts → ℕ
price x = 5 * x.straight + 7 * x.diagonal

-- the counter rate compares prices, and a count above the limit as the limit
abbrev pub counter : Counts → Counts → Comparison
counter x y = compared (price (capped x)) (price (capped y))
