-- How numbers stand for a plan: nine for each cell, cells in row order. The first eight are the cell's labels, in the order of the headings; the ninth is 1 for an open cell and 0 for a closed one.
use Rattle.std.specs.Prelude.{◌≡◌, ℕ, ◌+◌, ◌*◌, ◌%◌, ◌<◌, Bool, true, false, cond, ◌&&◌, List, length, drop, Some, None, Option, MatchResult, ◌==◌, nat_lt, slice_index}
use Rattle.floor.specs.declared.Cell.{Cell}
use Rattle.floor.specs.declared.Heading.{Heading}
use Rattle.floor.specs.Plane.{point, number}
use Rattle.floor.specs.Plans.{Plan, inside, is_open, closed, marked}
use Rattle.floor.specs.Jumps.{jump_from}
use Rattle.source.specs.Labels.{label_of}
use Rattle.source.specs.Sizes.{size_answer}
use Rattle.source.specs.Drawing.{opened}

-- how many numbers a plan needs
abbrev pub needed : ℕ → ℕ → ℕ
needed rows cols = 9 * (rows * cols)

-- where the nine numbers of a cell begin
abbrev pub begins : ℕ → Cell → ℕ
begins cols c = 9 * (c.row * cols + c.col)

-- where those of a cell inside begin; a cell outside has none
abbrev pub Placed : ℕ → ℕ → Cell → Option ℕ → Type 0
Placed rows cols c (Some k) = (c.row < rows) × (c.col < cols) × (k ≡ begins cols c)
Placed rows cols c None = (nat_lt c.row rows && nat_lt c.col cols) ≡ false

-- the plan that numbers mean: a cell inside is open where its ninth number is 1
abbrev pub plan_of : ℕ → ℕ → List ℕ → Plan
plan_of rows cols numbers = record { rows = rows; cols = cols; free = λ r c. (nat_lt r rows && nat_lt c cols) && (slice_index numbers (9 * (r * cols + c) + 8) == 1) }

-- each label of a cell inside is that of its jump
abbrev pub Labelled : Plan → List ℕ → Type 0
Labelled p numbers = (c : Cell) → inside p c ≡ true → (h : Heading) → slice_index numbers (begins p.cols c + number h) ≡ label_of (jump_from p (point c) h)

-- each ninth number of a cell inside says whether it is open
abbrev pub Flagged : Plan → List ℕ → Type 0
Flagged p numbers = (c : Cell) → inside p c ≡ true → slice_index numbers (begins p.cols c + 8) ≡ cond (is_open p c) 1 0

-- Every number of a plan is the defined one.
pub record Defined (p : Plan) (numbers : List ℕ) : Type 0 where
  pub labels : Labelled p numbers
  pub openings : Flagged p numbers

-- What making leaves, where the size check passes: a new plan, and all past it as it was.
pub record New (rows cols : ℕ) (before : List ℕ) (made : Plan) (after : List ℕ) : Type 0 where
  pub plan : made ≡ closed rows cols
  pub defined : Defined (closed rows cols) after
  pub filled : (k : ℕ) → k < needed rows cols → slice_index after k ≡ cond (k % 9 == 8) 0 32768
  pub rest : drop (needed rows cols) after ≡ drop (needed rows cols) before

-- What making leaves, where the size check refuses: no rows and no columns, and the memory as it was.
pub record Unmade (before : List ℕ) (made : Plan) (after : List ℕ) : Type 0 where
  pub plan : made ≡ closed 0 0
  pub same : after ≡ before

-- What a mark of a cell inside leaves: the plan with that cell set, each number of it the defined one, and all past it as it was.
pub record Remarked (rows cols : ℕ) (before : List ℕ) (c : Cell) (b : Bool) (after : List ℕ) : Type 0 where
  pub plan : plan_of rows cols after ≡ marked (plan_of rows cols before) c b
  pub defined : Defined (plan_of rows cols after) after
  pub rest : drop (needed rows cols) after ≡ drop (needed rows cols) before

-- what making leaves, for every size and every memory
abbrev pub Made : ℕ → ℕ → List ℕ → Plan → List ℕ → Type 0
Made rows cols before made after = MatchResult (size_answer rows cols (length before) (needed rows cols)) (λ _. New rows cols before made after) (λ _. Unmade before made after)

-- What drawing leaves: each number of the plan with these cells open is the defined one, and all past them is as it was; or the memory as it was.
abbrev pub Drawn : ℕ → ℕ → List Cell → List ℕ → List ℕ → Type 0
Drawn rows cols cells before after =
    MatchResult (size_answer rows cols (length before) (needed rows cols))
    (λ _. Defined (opened (closed rows cols) cells) after × (drop (needed rows cols) after ≡ drop (needed rows cols) before))
    (λ _. after ≡ before)
