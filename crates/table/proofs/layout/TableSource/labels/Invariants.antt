use Rattle.std.proofs.Common.{◌≡◌, ℕ, ◌+◌, ◌<◌, length, get_or}
use Rattle.table.proofs.layout.TableSource.labels.Given as goal

abbrev pub invariant-loop-heading : goal.invariant-loop-heading
invariant-loop-heading l = (length l.all ≡ 8) × ((h : ℕ) → h < l.heading → get_or l.all h 0 ≡ get_or l.self.numbers.now (l.place + h) 0)
