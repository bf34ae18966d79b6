use Rattle.std.proofs.Common.{◌≡◌}
use Rattle.search.specs.Mark.{finished}
use Rattle.search.specs.Frontier.{Standing, SameFrontier}
use Rattle.search.proofs.frontier.Frontier.follow_all.Given as goal

abbrev pub invariant-loop-edge : goal.invariant-loop-edge
invariant-loop-edge g l =
    Standing g.R.Rate.order (g.G.Graph.out l.graph) l.self l.from l.base l.edge-index
    × (finished l.self.entries.now ≡ finished l.initial.self.entries.now)
    × SameFrontier l.initial.self l.self
