-- The run that a sheet asks for.
use Rattle.std.specs.Prelude.{List, ◌++◌, map}
use Rattle.floor.specs.declared.Cell.{Cell}
use Rattle.sheet.specs.declared.Entry.{Entry}
use Rattle.sheet.specs.declared.Mark.{Mark}
use Rattle.sheet.specs.declared.Mark.TheVariants.{Panel, Device}
use Rattle.sheet.specs.Meaning.{marked}

-- the cells of the entries that have a mark, in line order
abbrev pub cells_marked : Mark → List Entry → List Cell
cells_marked m es = map (λ e. e.cell) (marked m es)

-- the panel, and then the devices in line order; entries without a panel give the devices alone
abbrev pub run_of : List Entry → List Cell
run_of es = cells_marked Panel es ++ cells_marked Device es
