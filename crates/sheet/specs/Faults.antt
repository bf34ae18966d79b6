-- What each refusal says of a sheet: its first fault, in the words of lines, fields and entries.
use Rattle.std.specs.Prelude.{◌≡◌, ℕ, ◌+◌, ◌-◌, ◌<◌, ◌≤◌, List, [], ◌∷◌, length, ◌≢◌, slice_index_or}
use Rattle.std.specs.List.{All, Contains}
use Rattle.sheet.specs.declared.columns.Column.{Column}
use Rattle.sheet.specs.declared.Entry.{Entry}
use Rattle.sheet.specs.declared.Mark.TheVariants.{Panel}
use Rattle.sheet.specs.declared.columns.Names.{Names}
use Rattle.sheet.specs.declared.refusals.Refusal.{Refusal}
use Rattle.sheet.specs.declared.refusals.Refusal.TheVariants.{TooLong, ShortList, BadNames, FieldCount, BadField, CellTwice, SecondPanel, NoPanel}
use Rattle.sheet.specs.Format.{lines, fields}
use Rattle.sheet.specs.Meaning.{marked, over}
use Rattle.sheet.specs.Laws.{Holds, Named, Valued}

-- line n of a text, counted from 1
abbrev pub line_of : List ℕ → ℕ → List ℕ
line_of text n = slice_index_or (lines text) (n - 1) []

-- field f of a line, counted from 1
abbrev pub field_of : List ℕ → ℕ → List ℕ
field_of line f = slice_index_or (fields line) (f - 1) []

-- the column of field f
abbrev pub column_at : Names → ℕ → Column
column_at names f = slice_index_or (names.first ∷ names.second ∷ names.third ∷ []) (f - 1) names.first

-- lines 1 to n are right: line 1 names the columns, each other line says its entry, no two of them name one cell,
-- and at most one has a panel; the entries are those of lines 2 to n, in their order
pub record RightUpTo (text : List ℕ) (n : ℕ) (names : Names) (es : List Entry) : Type 0 where
  pub there : n ≤ length (lines text)
  pub many : length es + 1 ≡ n
  pub named : Named (line_of text 1) names
  pub valued : (i : ℕ) (d : Entry) → i < length es → Valued (line_of text (i + 2)) names (i + 2) (slice_index_or es i d)
  pub apart : (i j : ℕ) (d : Entry) → i < j → j < length es → (slice_index_or es i d).cell ≢ (slice_index_or es j d).cell
  pub panels : length (marked Panel es) ≤ 1

-- line n is the first that is wrong, and it is wrong in this way; the entries are those of the lines before it
pub record FirstWrong (text : List ℕ) (n : ℕ) (es : List Entry) (Wrong : Names → List ℕ → Type 0) : Type 0 where
  pub names : Names
  pub right : RightUpTo text (n - 1) names es
  pub there : n ≤ length (lines text)
  pub wrong : Wrong names (line_of text n)

-- the bytes are a value of the column
abbrev pub IsValue : Column → List ℕ → Type 0
IsValue column bytes = (e : Entry) × Holds column bytes e

-- of a line's three fields, field f is the first that is not a value of its column
pub record WrongField (names : Names) (line : List ℕ) (f : ℕ) : Type 0 where
  pub three : length (fields line) ≡ 3
  pub from_one : 1 ≤ f
  pub to_three : f ≤ 3
  pub values_before : (k : ℕ) → 1 ≤ k → k < f → IsValue (column_at names k) (field_of line k)
  pub no_value : ¬ IsValue (column_at names f) (field_of line f)

-- one of the entries, of a line before line n, is like this
abbrev pub Earlier : ℕ → List Entry → (Entry → Type 0) → Type 0
Earlier n es Like = (e : Entry) × Contains es e × (e.line < n) × Like e

-- line n says an entry whose cell an earlier line names
abbrev pub CellTaken : ℕ → List Entry → Names → List ℕ → Type 0
CellTaken n es names line = (e : Entry) × Valued line names n e × Earlier n es (λ d. d.cell ≡ e.cell)

-- line n says a panel on a cell that no earlier line names, and an earlier line has a panel
abbrev pub PanelTaken : ℕ → List Entry → Names → List ℕ → Type 0
PanelTaken n es names line =
    (e : Entry) × Valued line names n e × ¬ Earlier n es (λ d. d.cell ≡ e.cell) ×
    (e.mark ≡ Panel) × Earlier n es (λ d. d.mark ≡ Panel)

-- the text is short enough, and the list has room for an entry of each cell of the floor
abbrev pub Fitting : List ℕ → ℕ → Type 0
Fitting text room = (length text ≤ 4096) × (256 ≤ room)

-- what each refusal says: the first fault of a text that is read into a list with room for so many entries;
-- the entries are those of the lines before the fault
abbrev pub Faulty : List ℕ → ℕ → List Entry → Refusal → Type 0
Faulty text room es TooLong = (4096 < length text) × (es ≡ [])
Faulty text room es ShortList = (length text ≤ 4096) × (room < 256) × (es ≡ [])
Faulty text room es BadNames = Fitting text room × ((names : Names) → ¬ Named (line_of text 1) names) × (es ≡ [])
Faulty text room es (FieldCount n) = Fitting text room × FirstWrong text n es (λ names line. length (fields line) ≢ 3)
Faulty text room es (BadField n f) = Fitting text room × FirstWrong text n es (λ names line. WrongField names line f)
Faulty text room es (CellTwice n) = Fitting text room × FirstWrong text n es (CellTaken n es)
Faulty text room es (SecondPanel n) = Fitting text room × FirstWrong text n es (PanelTaken n es)
Faulty text room es NoPanel =
    Fitting text room × ((names : Names) × RightUpTo text (length (lines text)) names es) × All (λ e. e.mark ≢ Panel) es

-- a text without a fault: all its lines are right and say these entries, and just one of them is the panel
pub record Right (text : List ℕ) (es : List Entry) : Type 0 where
  pub names : Names
  pub right : RightUpTo text (length (lines text)) names es
  pub panel : length (marked Panel es) ≡ 1

-- a sheet is refused for its first fault: the entries of the lines before it stand at the front of the list,
-- and past them the list is as it was
abbrev pub Refused : List ℕ → List Entry → List Entry → Refusal → Type 0
Refused text old new fault = (es : List Entry) × Faulty text (length old) es fault × (new ≡ over es old)
