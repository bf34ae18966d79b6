-- What a look at a plan finds, cell by cell.
use Rattle.std.specs.Prelude.{◌≡◌, ℕ, ◌+◌, Bool, true, false, not, ◌&&◌, ◌||◌, Some, None, Option}
use Rattle.floor.specs.declared.Cell.{Cell}
use Rattle.floor.specs.declared.Heading.{Heading}
use Rattle.floor.specs.declared.Side.TheVariants.{Left, Right}
use Rattle.floor.specs.Plane.{Point, point, turn, diagonal, step}
use Rattle.floor.specs.Plans.{Plan, opens, legal}
use Rattle.floor.specs.Jumps.{scan, straight_jump, diagonal_jump}

-- no corner is cut: the two cells beside a diagonal step are open
abbrev pub clear_of_corners : Plan → Cell → Heading → Bool
clear_of_corners p c h = not (diagonal h) || (opens p (step (turn Left h) (point c)) && opens p (step (turn Right h) (point c)))

-- on one side, the cell beside c is closed and the cell beside d is open
abbrev pub side_opens : Plan → Cell → Cell → Heading → Bool
side_opens p c d aside = not (opens p (step aside (point c))) && opens p (step aside (point d))

-- the straight step h from c makes its end d a stop, on one side or the other
abbrev pub stops_at : Plan → Cell → Cell → Heading → Bool
stops_at p c d h = side_opens p c d (turn Left (turn Left h)) || side_opens p c d (turn Right (turn Right h))

-- the end of the step h from c if it is legal, and none if it is not
abbrev pub LegalStep : Plan → Cell → Heading → Option Cell → Type 0
LegalStep p c h (Some d) = (legal (opens p) (point c) h ≡ true) × (point d ≡ step h (point c))
LegalStep p c h None = legal (opens p) (point c) h ≡ false

-- from a point, legal steps up to the first that ends at a mark: how many, and whether there is such a one
abbrev pub scanned : Plan → (Point → Bool) → Heading → Point → ℕ × Bool
scanned p mark h x = scan (opens p) mark h (p.rows + p.cols) x

-- a question about the two cells of a step tells whether it ends at a mark
abbrev pub Tells : (Cell → Cell → Bool → Type 0) → Heading → (Point → Bool) → Type 0
Tells answers h mark = (c d : Cell) (b : Bool) → point d ≡ step h (point c) → answers c d b → mark (point c) ≡ b

-- the straight and the diagonal jumps of a plan
abbrev pub straight_from : Plan → Cell → Heading → ℕ × Bool
straight_from p c h = straight_jump (opens p) (p.rows + p.cols) h (point c)

abbrev pub diagonal_from : Plan → Cell → Heading → ℕ × Bool
diagonal_from p c h = diagonal_jump (opens p) (p.rows + p.cols) h (point c)

-- from c, a straight jump of a heading next to the diagonal h is live
abbrev pub live_beside : Plan → Cell → Heading → Bool
live_beside p c h = (straight_from p c (turn Left h)).1 || (straight_from p c (turn Right h)).1
