-- What is read from a table.
use Rattle.std.specs.Prelude.{ℕ, Bool}
use Rattle.floor.specs.declared.Heading.{Heading}
use Rattle.floor.specs.Plane.{Point}
use Rattle.table.specs.Equations.{label_of_point, ends_in, due_in}
use Rattle.table.specs.declared.reading.View.{View}

-- the label of a point
abbrev pub label_in : View → Point → Heading → ℕ
label_in v = label_of_point v.size.rows v.size.cols v.numbers.now

-- whether a jump ends where the step leads
abbrev pub ends_at : View → Point → Heading → Bool
ends_at v = ends_in v.size.rows v.size.cols v.numbers.now

-- what the label should be
abbrev pub due_at : View → Point → Heading → ℕ
due_at v = due_in v.size.rows v.size.cols v.numbers.now
