-- Laws of the format, which say what lines, fields and values are without how they are found.
use Rattle.std.specs.Prelude.{◌≡◌, ℕ, ◌≤◌, false, List, [], ◌∷◌, ◌++◌, Some, Ok, codes, decimal, ◌≢◌}
use Rattle.std.specs.List.{AllByRecursion, join_with_byte}
use Rattle.sheet.specs.declared.columns.Column.{Column}
use Rattle.sheet.specs.declared.columns.Column.TheVariants as column
use Rattle.sheet.specs.declared.Entry.{Entry}
use Rattle.sheet.specs.declared.Mark.{Mark}
use Rattle.sheet.specs.declared.Mark.TheVariants.{Open, Panel, Device}
use Rattle.sheet.specs.declared.columns.Names.{Names}
use Rattle.sheet.specs.Format.{pieces, lines, fields, same_column, as_names, as_coordinate, as_mark, as_entry}

-- no byte of a piece is the separator
abbrev pub Unbroken : ℕ → List ℕ → Type 0
Unbroken separator piece = AllByRecursion (λ b. b ≢ separator) piece

-- the name of a column on the first line
abbrev pub name_of : Column → List ℕ
name_of column.Row = codes "row"
name_of column.Col = codes "col"
name_of column.Mark = codes "mark"

-- the sign that is written for a mark
abbrev pub sign_of : Mark → List ℕ
sign_of Open = codes "."
sign_of Panel = codes "P"
sign_of Device = codes "D"

-- a field's bytes are what the entry has in this column: its row, its col or its mark
abbrev pub Holds : Column → List ℕ → Entry → Type 0
Holds column.Row bytes e = as_coordinate bytes ≡ Some e.cell.row
Holds column.Col bytes e = as_coordinate bytes ≡ Some e.cell.col
Holds column.Mark bytes e = as_mark bytes ≡ Some e.mark

-- each column stands once among the names
pub record EachOnce (names : Names) : Type 0 where
  pub first_second : same_column names.first names.second ≡ false
  pub second_third : same_column names.second names.third ≡ false
  pub first_third : same_column names.first names.third ≡ false

-- a names line is right and says these names: it has just their three words, and no column twice
pub record Named (line : List ℕ) (names : Names) : Type 0 where
  pub words : fields line ≡ name_of names.first ∷ name_of names.second ∷ name_of names.third ∷ []
  pub each_once : EachOnce names

-- line n, a further line, is right and says this entry: it has three fields, each the entry's value under its name,
-- and the entry has the line's number
pub record Valued (line : List ℕ) (names : Names) (n : ℕ) (e : Entry) : Type 0 where
  pub first : List ℕ
  pub second : List ℕ
  pub third : List ℕ
  pub three : fields line ≡ first ∷ second ∷ third ∷ []
  pub holds_first : Holds names.first first e
  pub holds_second : Holds names.second second e
  pub holds_third : Holds names.third third e
  pub numbered : e.line ≡ n

-- What holds of the format, whatever the bytes.
pub record FormatLaws : Type 0 where
  -- the pieces of a text make it again, no piece has a separator, and no other pieces do so
  pub rejoined : (s : ℕ) (text : List ℕ) → join_with_byte s (pieces s text) ≡ text
  pub unbroken : (s : ℕ) (text : List ℕ) → AllByRecursion (Unbroken s) (pieces s text)
  pub unique : (s : ℕ) (p : List ℕ) (more : List (List ℕ)) → AllByRecursion (Unbroken s) (p ∷ more) →
      pieces s (join_with_byte s (p ∷ more)) ≡ p ∷ more
  -- a line feed at the end starts no line
  pub ended : (text : List ℕ) → lines (text ++ 10 ∷ []) ≡ pieces 10 text
  -- coordinates are what is written of the numbers 0 to 15, and nothing else
  pub written : (n : ℕ) → n ≤ 15 → as_coordinate (decimal n) ≡ Some n
  pub numbers : (bytes : List ℕ) (n : ℕ) → as_coordinate bytes ≡ Some n → (n ≤ 15) × (bytes ≡ decimal n)
  -- marks are the signs of the three marks, and nothing else
  pub signed : (m : Mark) → as_mark (sign_of m) ≡ Some m
  pub signs : (bytes : List ℕ) (m : Mark) → as_mark bytes ≡ Some m → bytes ≡ sign_of m
  -- a line is read as these names if it is right and says them, and not else
  pub names : (line : List ℕ) (ns : Names) → as_names line ≡ Some ns → Named line ns
  pub names_read : (line : List ℕ) (ns : Names) → Named line ns → as_names line ≡ Some ns
  -- under the names, a line is read as this entry if it is right and says it, and not else
  pub values : (line : List ℕ) (ns : Names) (n : ℕ) (e : Entry) → EachOnce ns →
      as_entry ns n line ≡ Ok e → Valued line ns n e
  pub values_read : (line : List ℕ) (ns : Names) (n : ℕ) (e : Entry) → EachOnce ns →
      Valued line ns n e → as_entry ns n line ≡ Ok e
