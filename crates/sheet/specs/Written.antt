-- The text of a sheet, written from its entries.
use Rattle.std.specs.Prelude.{ℕ, List, [], ◌∷◌, map, decimal}
use Rattle.std.specs.List.{join_with_byte}
use Rattle.sheet.specs.declared.columns.Column.{Column}
use Rattle.sheet.specs.declared.columns.Column.TheVariants as column
use Rattle.sheet.specs.declared.Entry.{Entry}
use Rattle.sheet.specs.declared.columns.Names.{Names}
use Rattle.sheet.specs.Laws.{name_of, sign_of}

-- an entry's value in a column, as it is written
abbrev pub written_in : Column → Entry → List ℕ
written_in column.Row e = decimal e.cell.row
written_in column.Col e = decimal e.cell.col
written_in column.Mark e = sign_of e.mark

-- three fields, parted by single spaces
abbrev pub spaced : List ℕ → List ℕ → List ℕ → List ℕ
spaced a b c = join_with_byte 32 (a ∷ b ∷ c ∷ [])

-- the names line
abbrev pub names_line : Names → List ℕ
names_line names = spaced (name_of names.first) (name_of names.second) (name_of names.third)

-- an entry's line under the names
abbrev pub entry_line : Names → Entry → List ℕ
entry_line names e = spaced (written_in names.first e) (written_in names.second e) (written_in names.third e)

-- the names line and a line for each entry, parted by line feeds; none stands at the end
abbrev pub text_of : Names → List Entry → List ℕ
text_of names es = join_with_byte 10 (names_line names ∷ map (entry_line names) es)
