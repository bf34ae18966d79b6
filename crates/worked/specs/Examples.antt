-- Examples that can be worked by hand: what is asked, what is answered, and what it is that the answer is right.
use Rattle.std.specs.Prelude.{◌≡◌, ℕ, Bool, false, ◌&&◌, List, [], ◌∷◌, Some, Result, nat_lt}
use Rattle.floor.specs.declared.Cell.{Cell}
use Rattle.floor.specs.declared.Counts.{Counts}
use Rattle.floor.specs.declared.Heading.{Heading}
use Rattle.floor.specs.Plane.{point}
use Rattle.floor.specs.Plans.{Plan, marked, legal}
use Rattle.floor.specs.Jumps.{walk, jump_of}
use Rattle.floor.specs.Places.{successor}
use Rattle.source.specs.Labels.{label_of}
use Rattle.rate.specs.declared.Comparison.{Comparison}
use Rattle.rate.specs.Laws.{Lawful}
use Rattle.rate.specs.Exact.{exact}
use Rattle.rate.specs.Counter.{counter}
use Rattle.cheapest.specs.Cheapest.{Cheapest}
use Rattle.listing.specs.declared.millimetres.Refusal.{Refusal}
use Rattle.listing.specs.Millimetres.{Measured}

-- the cell in a row and a column
abbrev pub cell : ℕ → ℕ → Cell
cell r c = record { row = r; col = c }

-- so many rows and columns, all open but these cells
pub record Sketch : Type 0 where
  pub rows : ℕ
  pub cols : ℕ
  pub shut : List Cell

-- the plan of so many rows and columns with every cell open
abbrev pub all_open : ℕ → ℕ → Plan
all_open rows cols = record { rows = rows; cols = cols; free = λ r c. nat_lt r rows && nat_lt c cols }

-- a plan with these cells closed, one after another
abbrev pub without : Plan → List Cell → Plan
without p [] = p
without p (x ∷ xs) = marked (without p xs) x false

-- the plan that a sketch shows
abbrev pub drawn : Sketch → Plan
drawn k = without (all_open k.rows k.cols) k.shut

-- what is asked, and last what is answered
pub data Example : Type 0 where
  -- the jump from a cell with a heading's number: its steps and whether it is live, and its label
  jumps : Sketch → Cell → ℕ → ℕ × Bool → ℕ → Example
  -- the counts of the cheapest routes from one cell to another
  runs : Sketch → Cell → Cell → Counts → Example
  -- the successor of a start, on the way to a target, with a heading
  succeeds : Sketch → Cell → Cell → Heading → Cell → Example
  -- one pair of counts beside another, by the exact rate and by the counter rate
  compares : Counts → Counts → Comparison → Comparison → Example
  -- the millimetres for the side of a cell and counts, or why they are refused
  measures : ℕ → Counts → Result ℕ Refusal → Example

-- these counts, and no others, are those of a cheapest route, under every lawful rate
abbrev pub OnlyCheapest : Plan → Cell → Cell → Counts → Type 0
OnlyCheapest p s t n = (order : Counts → Counts → Comparison) → Lawful order → Cheapest order legal p s t n × ((m : Counts) → Cheapest order legal p s t m → m ≡ n)

-- the answer is right, by the definitions that the contracts cite
abbrev pub Holds : Example → Type 0
Holds (jumps k x h answer label) = (jump_of (drawn k) x h ≡ answer) × (label_of (jump_of (drawn k) x h) ≡ label)
Holds (runs k s t n) = OnlyCheapest (drawn k) s t n
Holds (succeeds k s t h x) = (i : ℕ) × (successor (drawn k) (point t) (point s) h ≡ Some i) × (walk h i (point s) ≡ point x)
Holds (compares x y by_length by-price) = (exact x y ≡ by_length) × (counter x y ≡ by-price)
Holds (measures side n answer) = Measured side n answer
