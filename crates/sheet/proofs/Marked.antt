-- How many cells have a mark.
use Rattle.std.proofs.Common.{suc, ◌+◌, ◌≤◌, cond, List, [], ◌∷◌, map, length, arith}
use Rattle.sheet.specs.declared.Entry.{Entry}
use Rattle.sheet.specs.declared.Mark.{Mark}
use Rattle.sheet.specs.declared.Mark.TheVariants.{Open, Panel, Device}
use Rattle.sheet.specs.Meaning.{same_mark, marked}
use Rattle.sheet.specs.Run.{cells_marked}

-- an entry has one mark, so a run is no longer than its entries
pub run_short : (es : List Entry) → length (cells_marked Panel es) + length (cells_marked Device es) ≤ length es
run_short [] = omega arith
run_short (e ∷ es) = by e.mark (run_short es)
  where
    by : (m : Mark) → length (cells_marked Panel es) + length (cells_marked Device es) ≤ length es → length (map (λ f. f.cell) (cond (same_mark m Panel) (e ∷ marked Panel es) (marked Panel es))) + length (map (λ f. f.cell) (cond (same_mark m Device) (e ∷ marked Device es) (marked Device es))) ≤ suc (length es)
    by Open rest = omega arith
    by Panel rest = omega arith
    by Device rest = omega arith
