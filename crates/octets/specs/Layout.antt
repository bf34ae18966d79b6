-- How bytes stand for a plan: the cell in row r and column c has byte r × columns + c, and what lies past rows × columns belongs to others.
use Rattle.std.specs.Prelude.{◌≡◌, ℕ, ◌+◌, ◌*◌, ◌<◌, ◌≤◌, Bool, true, false, ◌&&◌, List, length, drop, MatchResult, ◌==◌, nat_lt, slice_index}
use Rattle.floor.specs.declared.Cell.{Cell}
use Rattle.floor.specs.Plans.{Plan, closed}
use Rattle.source.specs.Sizes.{size_answer}
use Rattle.source.specs.Drawing.{opened}

-- a byte of 0 is an open cell, and every other byte a closed one
abbrev pub free_at : List ℕ → ℕ → Bool
free_at bytes i = slice_index bytes i == 0

-- the plan that bytes mean
abbrev pub plan_of : ℕ → ℕ → List ℕ → Plan
plan_of rows cols bytes = record { rows = rows; cols = cols; free = λ r c. (nat_lt r rows && nat_lt c cols) && free_at bytes (r * cols + c) }

-- what is written for a cell
abbrev pub written : Bool → ℕ
written true = 0
written false = 1

-- the bytes hold just what is written for the cells of a plan
abbrev pub Holds : Plan → List ℕ → Type 0
Holds p bytes = (r c : ℕ) → r < p.rows → c < p.cols → slice_index bytes (r * p.cols + c) ≡ written (p.free r c)

-- What marking leaves: all past the plan is as it was, and where 0 or 1 stood, 0 or 1 stands.
pub record Kept (rows cols : ℕ) (before after : List ℕ) : Type 0 where
  pub rest : drop (rows * cols) after ≡ drop (rows * cols) before
  pub plain : (k : ℕ) → k < rows * cols → slice_index before k ≤ 1 → slice_index after k ≤ 1

-- What making leaves, where the size check passes: a new plan, a 1 for each of its cells, and all past it as it was.
pub record New (rows cols : ℕ) (before : List ℕ) (made : Plan) (after : List ℕ) : Type 0 where
  pub plan : made ≡ closed rows cols
  pub ones : (k : ℕ) → k < rows * cols → slice_index after k ≡ 1
  pub rest : drop (rows * cols) after ≡ drop (rows * cols) before

-- What making leaves, where the size check refuses: no rows and no columns, and the memory as it was.
pub record Unmade (before : List ℕ) (made : Plan) (after : List ℕ) : Type 0 where
  pub plan : made ≡ closed 0 0
  pub rest : after ≡ before

-- what making leaves, for every size and every memory
abbrev pub Made : ℕ → ℕ → List ℕ → Plan → List ℕ → Type 0
Made rows cols before made after = MatchResult (size_answer rows cols (length before) (rows * cols)) (λ _. New rows cols before made after) (λ _. Unmade before made after)

-- What drawing leaves: the bytes of the plan with these cells open, and all past them as it was; or the memory as it was.
abbrev pub Drawn : ℕ → ℕ → List Cell → List ℕ → List ℕ → Type 0
Drawn rows cols cells before after =
    MatchResult (size_answer rows cols (length before) (rows * cols))
    (λ _. Holds (opened (closed rows cols) cells) after × (drop (rows * cols) after ≡ drop (rows * cols) before))
    (λ _. after ≡ before)
