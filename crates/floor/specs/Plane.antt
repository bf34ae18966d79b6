-- The plane on which plans lie. Every step from every point leads to a point, so that one law serves all headings.
use Rattle.std.specs.Prelude.{ℕ, Bool, true, false, cond, ℤ, pos, negsuc, ◌+ℤ◌, Some, None, Option, ◌==◌}
use Rattle.floor.specs.declared.Cell.{Cell}
use Rattle.floor.specs.declared.Heading.{Heading}
use Rattle.floor.specs.declared.Heading.TheVariants.{North, NorthEast, East, SouthEast, South, SouthWest, West, NorthWest}
use Rattle.floor.specs.declared.Side.{Side}
use Rattle.floor.specs.declared.Side.TheVariants.{Left, Right}

-- a point by its row and column, which may be negative
pub record Point : Type 0 where
  pub row : ℤ
  pub col : ℤ

-- the point of a cell
abbrev pub point : Cell → Point
point c = record { row = pos c.row; col = pos c.col }

-- headings are numbered clockwise from north
abbrev pub number : Heading → ℕ
number North = 0
number NorthEast = 1
number East = 2
number SouthEast = 3
number South = 4
number SouthWest = 5
number West = 6
number NorthWest = 7

-- the heading of a number, if there is one
abbrev pub heading : ℕ → Option Heading
heading n =
    cond (n == 0) (Some North) (cond (n == 1) (Some NorthEast) (cond (n == 2) (Some East) (cond (n == 3) (Some SouthEast)
    (cond (n == 4) (Some South) (cond (n == 5) (Some SouthWest) (cond (n == 6) (Some West) (cond (n == 7) (Some NorthWest) None)))))))

-- whether two headings are one
abbrev pub same : Heading → Heading → Bool
same h g = number h == number g

-- the heading next to h on a side
abbrev pub turn : Side → Heading → Heading
turn Right North = NorthEast
turn Right NorthEast = East
turn Right East = SouthEast
turn Right SouthEast = South
turn Right South = SouthWest
turn Right SouthWest = West
turn Right West = NorthWest
turn Right NorthWest = North
turn Left North = NorthWest
turn Left NorthEast = North
turn Left East = NorthEast
turn Left SouthEast = East
turn Left South = SouthEast
turn Left SouthWest = South
turn Left West = SouthWest
turn Left NorthWest = West

-- the heading four turns on
abbrev pub opposite : Heading → Heading
opposite h = turn Left (turn Left (turn Left (turn Left h)))

-- headings of an even number are straight, the others diagonal
abbrev pub diagonal : Heading → Bool
diagonal North = false
diagonal NorthEast = true
diagonal East = false
diagonal SouthEast = true
diagonal South = false
diagonal SouthWest = true
diagonal West = false
diagonal NorthWest = true

-- what a step adds to the row
abbrev pub down : Heading → ℤ
down North = negsuc 0
down NorthEast = negsuc 0
down East = pos 0
down SouthEast = pos 1
down South = pos 1
down SouthWest = pos 1
down West = pos 0
down NorthWest = negsuc 0

-- what a step adds to the column
abbrev pub across : Heading → ℤ
across North = pos 0
across NorthEast = pos 1
across East = pos 1
across SouthEast = pos 1
across South = pos 0
across SouthWest = negsuc 0
across West = negsuc 0
across NorthWest = negsuc 0

-- the point one step on
unfoldable pub step : Heading → Point → Point
step h x = record { row = x.row +ℤ down h; col = x.col +ℤ across h }
