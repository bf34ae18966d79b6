-- The chain has more cells to give, and they are what is left to write.
use Rattle.std.proofs.Common.{List}
use Rattle.std.proofs.lemmas.Iterator.{YieldsList}
use Rattle.writing.proofs.Fronts.{Left}
use Rattle.floor.specs.declared.Cell.{Cell}
use Rattle.sheet.specs.Run.{cells_marked}
use Rattle.sheet.proofs.put_marked.Given as goal

abbrev pub invariant-loop-cell : goal.invariant-loop-cell
invariant-loop-cell l = (more : List Cell) × YieldsList (goal.iterator-loop-cell).next_gives (λ x. x) l.cell-iterator more × Left l.initial.cells (cells_marked l.fn.mark l.fn.entries) l.cells more
