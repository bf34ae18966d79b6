use Rattle.std.proofs.Common.{◌≡◌, length, take, drop}
use Rattle.lengths.specs.Lists.{Spared}
use Rattle.planner.proofs.Legs.{Underway}
use Rattle.planner.proofs.marking.Planner.tour.Given as goal

-- the legs so far; the rest of the lists; and before the first leg nothing was searched
abbrev pub invariant-loop-i : goal.invariant-loop-i
invariant-loop-i g l = record {
  legs : Underway (g.R.Rate.order l.self.rate) (g.S.JumpSource.meaning l.self.source) l.cells (length l.initial.work.entries.now) (length l.initial.work.waiting.now) l.i (take l.i l.legs) l.total;
  left : drop l.i l.legs ≡ drop l.i l.initial.legs;
  rest : Spared (g.S.JumpSource.meaning l.self.source) l.initial.work l.work;
  unsearched : l.i ≡ 0 → l.work ≡ l.initial.work;
}
