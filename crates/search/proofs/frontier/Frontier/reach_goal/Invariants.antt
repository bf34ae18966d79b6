use Rattle.std.proofs.Common.{◌≡◌, ℕ, ◌-◌, true, false, length}
use Rattle.search.specs.Mark.{finished, finishes}
use Rattle.search.specs.Frontier.{Standing, SameFrontier}
use Rattle.search.proofs.frontier.Frontier.reach_goal.Given as goal

abbrev pub invariant-loop-place : goal.invariant-loop-place
invariant-loop-place g l = record {
  standing : Standing g.R.Rate.order (g.G.Graph.out l.graph) l.self l.from l.base 0;
  missed : (k : ℕ) → finished l.self.entries.now k ≡ true → g.G.Graph.goal l.graph k ≡ false;
  counted : l.finished ≡ finishes l.self.entries.now;
  same : SameFrontier l.initial.self l.self;
}

abbrev pub decreases-loop-place : goal.decreases-loop-place
decreases-loop-place g l = length l.initial.self.entries.now - finishes l.self.entries.now
