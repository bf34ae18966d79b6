-- The floor of a sheet, and the loop that is asked of it.
use Rattle.std.specs.Prelude.{List, map, Result}
use Rattle.floor.specs.declared.Cell.{Cell}
use Rattle.floor.specs.declared.Counts.{Counts}
use Rattle.floor.specs.Plans.{Plan, legal}
use Rattle.rate.specs.Exact.{exact}
use Rattle.planner.specs.declared.answers.LoopRefusal.{LoopRefusal}
use Rattle.planner.specs.Loops.{LoopTold}
use Rattle.sheet.specs.declared.Entry.{Entry}
use Rattle.sheet.specs.Meaning.{named}
use Rattle.sheet.specs.Run.{run_of}

-- the cells that the entries name
abbrev pub cells_of : List Entry → List Cell
cells_of es = map (λ e. e.cell) es

-- 16 rows and 16 columns; a cell is open exactly if an entry names it
abbrev pub floor_of : List Entry → Plan
floor_of es = record { rows = 16; cols = 16; free = λ r c. named (record { row = r; col = c }) es }

-- The loop through the panel and the devices, under the exact rate: how it is answered, with the counts of the legs that were measured. The two work
-- lists have an entry for each of the 2,048 places, and there is room for 64 legs, so that neither is ever why a loop is refused.
abbrev pub LoopOf : List Entry → List Counts → Result Counts LoopRefusal → Type 0
LoopOf es ns r = LoopTold exact legal (floor_of es) (run_of es) 2048 2048 64 ns r
