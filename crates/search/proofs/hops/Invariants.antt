use Rattle.floor.specs.Tally.{steps}
use Rattle.search.specs.Mark.{key, standing, marks}
use Rattle.search.proofs.Backward.{Walked}
use Rattle.search.proofs.hops.Given as goal

abbrev pub invariant-loop-at : goal.invariant-loop-at
invariant-loop-at g l = Walked (g.G.Graph.out l.graph) (marks l.entries) l.place l.at l.count

abbrev pub decreases-loop-at : goal.decreases-loop-at
decreases-loop-at g l = steps (key (standing (marks l.entries) l.at))
