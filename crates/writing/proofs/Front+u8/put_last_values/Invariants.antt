-- The values from the number on, and the line feed, are left.
use Rattle.std.proofs.Common.{drop}
use Rattle.writing.specs.Values.{last_values}
use Rattle.writing.proofs.Fronts.{Left}
use Rattle.writing.proofs.Front+u8.put_last_values.Given as goal

abbrev pub invariant-loop-number : goal.invariant-loop-number
invariant-loop-number l = Left l.initial.self (last_values l.numbers) l.self (last_values (drop l.number-index l.numbers))
