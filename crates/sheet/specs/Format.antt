-- The format of a sheet: a text is lines, a line is fields, and a field is a value of its column.
use Rattle.std.specs.Prelude.{ℕ, ◌+◌, ◌-◌, Bool, true, false, cond, not, ◌&&◌, List, [], ◌∷◌, Some, None, Ok, Err, codes, Option, Result, ◌==◌, nat_le}
use Rattle.std.specs.Option.{option_map, ok_or}
use Rattle.std.specs.List.{slice_split}
use Rattle.std.specs.Str.{bytes_eq}
use Rattle.sheet.specs.declared.columns.Column.{Column}
use Rattle.sheet.specs.declared.columns.Column.TheVariants as column
use Rattle.sheet.specs.declared.Entry.{Entry}
use Rattle.sheet.specs.declared.Mark.{Mark}
use Rattle.sheet.specs.declared.Mark.TheVariants.{Open, Panel, Device}
use Rattle.sheet.specs.declared.columns.Names.{Names}
use Rattle.sheet.specs.declared.refusals.Refusal.{Refusal}
use Rattle.sheet.specs.declared.refusals.Refusal.TheVariants.{FieldCount, BadField}

-- what a text's separators part: one piece more than there are separators, and a piece may be empty
abbrev pub pieces : ℕ → List ℕ → List (List ℕ)
pieces separator text = slice_split (λ b. b == separator) text

-- a text without the line feed that ends its last line, if that is there
abbrev pub unended : List ℕ → List ℕ
unended [] = []
unended (b ∷ []) = cond (b == 10) [] (b ∷ [])
unended (b ∷ c ∷ text) = b ∷ unended (c ∷ text)

-- the lines of a text, parted by line feeds; the empty text is one empty line
abbrev pub lines : List ℕ → List (List ℕ)
lines text = pieces 10 (unended text)

-- the fields of a line, parted by single spaces
abbrev pub fields : List ℕ → List (List ℕ)
fields line = pieces 32 line

-- three things in a row, and no more
abbrev pub three : {X : Type 0} → List X → Option (X × X × X)
three [] = None
three (a ∷ []) = None
three (a ∷ b ∷ []) = None
three (a ∷ b ∷ c ∷ []) = Some (a, b, c)
three (a ∷ b ∷ c ∷ d ∷ more) = None

-- the column that a name stands for
abbrev pub as_column : List ℕ → Option Column
as_column name =
    cond (bytes_eq name (codes "row")) (Some column.Row) (cond (bytes_eq name (codes "col")) (Some column.Col) (cond (bytes_eq name (codes "mark")) (Some column.Mark) None))

-- whether two columns are one
abbrev pub same_column : Column → Column → Bool
same_column column.Row column.Row = true
same_column column.Row column.Col = false
same_column column.Row column.Mark = false
same_column column.Col column.Row = false
same_column column.Col column.Col = true
same_column column.Col column.Mark = false
same_column column.Mark column.Row = false
same_column column.Mark column.Col = false
same_column column.Mark column.Mark = true

-- three columns, each of them once
abbrev pub each_once : Option Column → Option Column → Option Column → Option Names
each_once None b c = None
each_once (Some a) None c = None
each_once (Some a) (Some b) None = None
each_once (Some a) (Some b) (Some c) =
    cond (not (same_column a b) && (not (same_column b c) && not (same_column a c))) (Some (record { first = a; second = b; third = c })) None

-- the names line: the three columns in the order in which it names them
abbrev pub as_names : List ℕ → Option Names
as_names line = elim (three (fields line)) [ None ↦ None | Some f ↦ each_once (as_column f.0) (as_column f.1) (as_column f.2) ]

-- a byte from low to high
abbrev pub within : ℕ → ℕ → ℕ → Bool
within low high b = nat_le low b && nat_le b high

-- a row or a column, 0 to 15 without leading zeros: one digit, or a 1 and a digit up to 5
abbrev pub as_coordinate : List ℕ → Option ℕ
as_coordinate [] = None
as_coordinate (d ∷ []) = cond (within 48 57 d) (Some (d - 48)) None
as_coordinate (d ∷ e ∷ []) = cond (d == 49 && within 48 53 e) (Some (10 + (e - 48))) None
as_coordinate (d ∷ e ∷ f ∷ more) = None

-- the mark that a character stands for: '.' is 46, 'P' is 80 and 'D' is 68
abbrev pub mark_of : ℕ → Option Mark
mark_of c = cond (c == 46) (Some Open) (cond (c == 80) (Some Panel) (cond (c == 68) (Some Device) None))

-- a mark is one byte
abbrev pub as_mark : List ℕ → Option Mark
as_mark [] = None
as_mark (b ∷ []) = mark_of b
as_mark (b ∷ c ∷ more) = None

-- the entry of a row, a column, a mark and a line
abbrev pub entry_at : ℕ → ℕ → Mark → ℕ → Entry
entry_at r c m n = record { cell = record { row = r; col = c }; mark = m; line = n }

-- an entry with the value of one field set in its column's place, if the bytes are such a value
abbrev pub valued : Column → List ℕ → Entry → Option Entry
valued column.Row bytes e = option_map (λ n. entry_at n e.cell.col e.mark e.line) (as_coordinate bytes)
valued column.Col bytes e = option_map (λ n. entry_at e.cell.row n e.mark e.line) (as_coordinate bytes)
valued column.Mark bytes e = option_map (λ m. entry_at e.cell.row e.cell.col m e.line) (as_mark bytes)

-- what comes after a first thing that may be refused
abbrev pub and_then : {X Y : Type 0} → Result X Refusal → (X → Result Y Refusal) → Result Y Refusal
and_then (Ok x) next = next x
and_then (Err f) next = Err f

-- the same, refused with the line and the field's number if the bytes are no such value
abbrev pub filled : Column → List ℕ → ℕ → ℕ → Entry → Result Entry Refusal
filled column bytes line field e = ok_or (valued column bytes e) (BadField line field)

-- each of three fields, from the left, is a value of its column
abbrev pub entry_of : Names → ℕ → List ℕ × List ℕ × List ℕ → Result Entry Refusal
entry_of names n f =
    and_then (filled names.first f.0 n 1 (entry_at 0 0 Open n))
    (λ e. and_then (filled names.second f.1 n 2 e) (λ e'. filled names.third f.2 n 3 e'))

-- the entry that line n means: three fields, each a value of its column
abbrev pub as_entry : Names → ℕ → List ℕ → Result Entry Refusal
as_entry names n line = elim (three (fields line)) [ None ↦ Err (FieldCount n) | Some f ↦ entry_of names n f ]
