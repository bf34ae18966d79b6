-- What the parts of a sheet that the code holds stand for.
use Rattle.std.specs.Prelude.{ℕ, List}
use Rattle.sheet.specs.declared.columns.Column.{Column}
use Rattle.sheet.specs.declared.columns.Token.{Token}
use Rattle.sheet.specs.declared.columns.Token.TheVariants as token
use Rattle.sheet.specs.declared.columns.Column.TheVariants as column

-- the bytes that a token lends
abbrev pub said : Token → List ℕ
said (token.Row bytes) = bytes.now
said (token.Col bytes) = bytes.now
said (token.Mark bytes) = bytes.now

-- the column that a token stands in
abbrev pub column_of : Token → Column
column_of (token.Row bytes) = column.Row
column_of (token.Col bytes) = column.Col
column_of (token.Mark bytes) = column.Mark
