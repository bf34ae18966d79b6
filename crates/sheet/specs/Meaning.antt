-- What a whole sheet means: the entries up to its first fault, and that fault.
use Rattle.std.specs.Prelude.{ℕ, ◌+◌, Bool, true, false, cond, ◌&&◌, List, [], ◌∷◌, ◌++◌, length, drop, Some, None, Ok, Err, filter, Option, Result, ◌==◌, nat_lt}
use Rattle.std.specs.List.{list_any}
use Rattle.floor.specs.declared.Cell.{Cell}
use Rattle.sheet.specs.declared.Entry.{Entry}
use Rattle.sheet.specs.declared.Mark.{Mark}
use Rattle.sheet.specs.declared.Mark.TheVariants.{Open, Panel, Device}
use Rattle.sheet.specs.declared.columns.Names.{Names}
use Rattle.sheet.specs.declared.refusals.Refusal.{Refusal}
use Rattle.sheet.specs.declared.refusals.Refusal.TheVariants.{TooLong, ShortList, BadNames, CellTwice, SecondPanel, NoPanel}
use Rattle.sheet.specs.Format.{lines, as_names, as_entry, and_then}

-- whether two cells are one
abbrev pub same_cell : Cell → Cell → Bool
same_cell a b = a.row == b.row && a.col == b.col

-- whether one of the entries passes a test
abbrev pub some : (Entry → Bool) → List Entry → Bool
some test es = list_any test es

-- whether one of the entries names the cell
abbrev pub named : Cell → List Entry → Bool
named c es = some (λ e. same_cell e.cell c) es

-- whether two marks are one
abbrev pub same_mark : Mark → Mark → Bool
same_mark Open Open = true
same_mark Open Panel = false
same_mark Open Device = false
same_mark Panel Open = false
same_mark Panel Panel = true
same_mark Panel Device = false
same_mark Device Open = false
same_mark Device Panel = false
same_mark Device Device = true

-- the entries that have a mark, in their order
abbrev pub marked : Mark → List Entry → List Entry
marked m es = filter (λ e. same_mark e.mark m) es

-- whether one of the entries is a panel
abbrev pub has_panel : List Entry → Bool
has_panel es = some (λ e. same_mark e.mark Panel) es

-- an entry after those seen: its cell is not named before, and it is not a second panel
abbrev pub admitted : List Entry → Entry → Result Entry Refusal
admitted seen e =
    cond (named e.cell seen) (Err (CellTwice e.line)) (cond (same_mark e.mark Panel && has_panel seen) (Err (SecondPanel e.line)) (Ok e))

-- the entries that are meant, and the refusal if there is one
pub record Reading : Type 0 where
  pub meant : List Entry
  pub fault : Option Refusal

-- these entries, and this refusal or none
abbrev pub reading : List Entry → Option Refusal → Reading
reading es f = record { meant = es; fault = f }

-- a refusal before any entry
abbrev pub nothing : Refusal → Reading
nothing f = reading [] (Some f)

-- a line that is refused ends the reading; else the reading goes on
abbrev pub onward : Result Entry Refusal → List Entry → (Entry → Reading) → Reading
onward (Ok e) seen next = next e
onward (Err f) seen next = reading seen (Some f)

-- the entry that line n adds to those seen
abbrev pub added : Names → ℕ → List Entry → List ℕ → Result Entry Refusal
added names n seen line = and_then (as_entry names n line) (admitted seen)

-- the lines from number n on, after the entries seen in those before
unfoldable pub read_on : Names → ℕ → List Entry → List (List ℕ) → Reading
read_on names n seen [] = reading seen (cond (has_panel seen) None (Some NoPanel))
read_on names n seen (line ∷ more) = onward (added names n seen line) seen (λ e. read_on names (n + 1) (seen ++ e ∷ []) more)

-- a names line, and then the entries from line 2 on
abbrev pub read_lines : List (List ℕ) → Reading
read_lines [] = nothing BadNames
read_lines (line ∷ more) = elim (as_names line) [ None ↦ nothing BadNames | Some names ↦ read_on names 2 [] more ]

-- what a text means to a reader with room for so many entries
abbrev pub reading_of : List ℕ → ℕ → Reading
reading_of text room = cond (nat_lt 4096 (length text)) (nothing TooLong) (cond (nat_lt room 256) (nothing ShortList) (read_lines (lines text)))

-- how a reading is answered: with the number of entries, or with its refusal
abbrev pub answered : Reading → Result ℕ Refusal
answered r = elim r.fault [ None ↦ Ok (length r.meant) | Some f ↦ Err f ]

-- a list after the entries were written over its front
abbrev pub over : List Entry → List Entry → List Entry
over es old = es ++ drop (length es) old
