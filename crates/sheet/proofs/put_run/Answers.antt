-- The panel's cell, and then the devices'.
use Rattle.std.proofs.Common.{◌+◌, ◌≤◌, List, length, arith}
use Rattle.std.proofs.lemmas.List.{length-append}
use Rattle.floor.specs.declared.Cell.{Cell}
use Rattle.writing.specs.declared.Front.{Front}
use Rattle.writing.specs.Fronts.{Fits}
use Rattle.writing.proofs.Fronts.{both_written, first_fits, fits_next, all_left}
use Rattle.sheet.specs.declared.Entry.{Entry}
use Rattle.sheet.specs.declared.Mark.TheVariants.{Panel, Device}
use Rattle.sheet.specs.Run.{cells_marked, run_of}
use Rattle.sheet.proofs.Marked.{run_short}
use Rattle.sheet.proofs.put_run.Goals as goal

-- the run has no more cells than there are entries
no_more : (es : List Entry) → length (run_of es) ≤ length es
no_more es = let short = run_short es in let whole = length-append (cells_marked Panel es) (cells_marked Device es) in omega arith

-- and so it fits
fits : (run : Front Cell) (es : List Entry) → run.len + length es ≤ length run.list.now → Fits run (run_of es)
fits run es room = let few = no_more es in record { room = omega arith }

pub put_marked-requires : goal.put_marked-requires
put_marked-requires c = first_fits _ (run_of c.args.entries.now) _ (cells_marked Panel c.args.entries.now) _ (all_left _ _ (fits _ c.args.entries.now c.requires))

pub put_marked-requires-2 : goal.put_marked-requires-2
put_marked-requires-2 c = fits_next _ _ _ _ (fits _ c.args.entries.now c.requires) c.put_marked.ensures

pub returns : goal.returns
returns c =
    let es = c.args.entries.now in
    let added = both_written _ _ _ _ _ (fits _ es c.requires) c.put_marked.ensures c.put_marked-2.ensures in
    let few = no_more es in
    let on = added.wrote.on in
    record { cells = added; within = omega arith }
