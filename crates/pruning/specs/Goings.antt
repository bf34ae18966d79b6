-- The headings in which a chain goes on, as a list that has a mark for each heading's number.
use Rattle.std.specs.Prelude.{◌≡◌, Bool, false, List, slice_index_or}
use Rattle.floor.specs.declared.Heading.{Heading}
use Rattle.floor.specs.Plane.{number}
use Rattle.floor.specs.Plans.{Plan}
use Rattle.floor.specs.Places.{Position, goes_on}

-- whether a heading is marked
abbrev pub taken : List Bool → Heading → Bool
taken on g = slice_index_or on (number g) false

-- the marks are just the headings in which a chain goes on from where it stands
abbrev pub Goings : Plan → Position → List Bool → Type 0
Goings p at on = (g : Heading) → taken on g ≡ goes_on p at g
