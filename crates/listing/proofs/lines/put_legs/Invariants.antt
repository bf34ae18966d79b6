-- The lines from the leg on are left.
use Rattle.std.proofs.Common.{◌+◌, drop}
use Rattle.writing.proofs.Fronts.{Left}
use Rattle.listing.specs.Lines.{leg_lines}
use Rattle.listing.proofs.lines.put_legs.Given as goal

abbrev pub invariant-loop-i : goal.invariant-loop-i
invariant-loop-i l = Left l.initial.page (leg_lines 1 l.amounts) l.page (leg_lines (l.i + 1) (drop l.i l.amounts))
