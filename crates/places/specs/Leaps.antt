-- The graph that a search follows from a start to a target: places by their numbers, and a leap to each successor.
use Rattle.std.specs.Prelude.{ℕ, ◌/◌, ◌%◌, Bool, cond, not, ◌&&◌, Some, None, Option, ◌==◌, unsigned_abs}
use Rattle.std.specs.Option.{option_map}
use Rattle.floor.specs.declared.Cell.{Cell}
use Rattle.floor.specs.declared.Heading.{Heading}
use Rattle.floor.specs.declared.Heading.TheVariants.{North}
use Rattle.floor.specs.Plane.{Point, point, heading}
use Rattle.floor.specs.Plans.{Plan}
use Rattle.floor.specs.Jumps.{walk}
use Rattle.floor.specs.Places.{start, place, spot, place_number, many, goes_on, successor}
use Rattle.floor.specs.Places as floor
use Rattle.search.specs.declared.graph.Position.{Position}
use Rattle.search.specs.declared.graph.Position.TheVariants.{Start, Place}
use Rattle.search.specs.declared.graph.Edge.{Edge}

-- the cell of a place's number, on a plan with so many columns
abbrev pub cell_of : ℕ → ℕ → Cell
cell_of cols k = record { row = k / 8 / cols; col = k / 8 % cols }

-- the heading of arrival at a place
abbrev pub heading_of : ℕ → Heading
heading_of k = elim (heading (k % 8)) [ Some h ↦ h | None ↦ North ]

-- where a position of the graph lies
abbrev pub stands : ℕ → Cell → Position → floor.Position
stands cols s Start = start (point s)
stands cols s (Place k) = place (point (cell_of cols k)) (heading_of k)

-- the cell of a point that has one
abbrev pub cell_at : Point → Cell
cell_at x = record { row = unsigned_abs x.row; col = unsigned_abs x.col }

-- the edge of a leap, so many steps of a heading from a point
abbrev pub leap : ℕ → Point → Heading → ℕ → Edge
leap cols x h k = record { to = place_number cols (cell_at (walk h k x)) h; counts = many h k }

-- the leap out of a point in a heading: to the successor, if that is a heading to go on in and has one
abbrev pub leap_in : Plan → Cell → Point → (Heading → Bool) → Heading → Option Edge
leap_in p t x on h = cond (on h) (option_map (leap p.cols x h) (successor p (point t) x h)) None

-- the leaps out of a point in the headings to go on in, by the numbers of these
abbrev pub leaps : Plan → Cell → Point → (Heading → Bool) → ℕ → Option Edge
leaps p t x on n = elim (heading n) [ Some h ↦ leap_in p t x on h | None ↦ None ]

-- the edges out of a position: the leaps in the headings in which it goes on
abbrev pub out : Plan → Cell → Cell → Position → ℕ → Option Edge
out p s t q = leaps p t (spot (stands p.cols s q)) (goes_on p (stands p.cols s q))

-- whether two cells are one
abbrev pub same_cell : Cell → Cell → Bool
same_cell a b = a.row == b.row && a.col == b.col

-- the places on the target; none where the start is the target, since nothing is left to search
abbrev pub goal : Plan → Cell → Cell → ℕ → Bool
goal p s t k = not (same_cell s t) && same_cell (cell_of p.cols k) t
