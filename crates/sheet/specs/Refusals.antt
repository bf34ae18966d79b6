-- The refusals of a sheet in figures and in words.
use Rattle.std.specs.Prelude.{ℕ, List, ◌++◌, codes, decimal}
use Rattle.sheet.specs.declared.refusals.Figures.{Figures}
use Rattle.sheet.specs.declared.refusals.Refusal.{Refusal}
use Rattle.sheet.specs.declared.refusals.Refusal.TheVariants.{TooLong, ShortList, BadNames, FieldCount, BadField, CellTwice, SecondPanel, NoPanel}

-- a number, a line and a field
abbrev pub in_figures : ℕ → ℕ → ℕ → Figures
in_figures n l f = record { number = n; line = l; field = f }

-- each refusal's number, line and field; 0 where one does not apply
abbrev pub figures_of : Refusal → Figures
figures_of TooLong = in_figures 15 0 0
figures_of ShortList = in_figures 16 0 0
figures_of BadNames = in_figures 17 1 0
figures_of (FieldCount l) = in_figures 18 l 0
figures_of (BadField l f) = in_figures 19 l f
figures_of (CellTwice l) = in_figures 20 l 0
figures_of (SecondPanel l) = in_figures 21 l 0
figures_of NoPanel = in_figures 21 0 0

-- each refusal as a sentence
abbrev pub sentence : Refusal → List ℕ
sentence TooLong = codes "the sheet is longer than 4096 bytes"
sentence ShortList = codes "there is no room for 256 entries"
sentence BadNames = codes "line 1 does not name row, col and mark, each once"
sentence (FieldCount l) = codes "line " ++ (decimal l ++ codes " does not have three fields parted by single spaces")
sentence (BadField l f) = codes "line " ++ (decimal l ++ (codes ": field " ++ (decimal f ++ codes " is not a value of its column")))
sentence (CellTwice l) = codes "line " ++ (decimal l ++ codes " names a cell that an earlier line names")
sentence (SecondPanel l) = codes "line " ++ (decimal l ++ codes " has a second panel")
sentence NoPanel = codes "no line has the panel"
