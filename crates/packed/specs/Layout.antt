-- How words stand for a plan: twice over, first by rows and then by columns, a bit for each cell, set where the cell is closed.
use Rattle.std.specs.Prelude.{◌≡◌, ℕ, ◌+◌, ◌-◌, ◌*◌, ◌/◌, ◌%◌, ◌^◌, ◌<◌, ◌≤◌, Bool, true, not, ◌&&◌, List, length, drop, MatchResult, nat_lt, slice_index}
use Rattle.floor.specs.Plans.{Plan, closed}
use Rattle.floor.specs.declared.Cell.{Cell}
use Rattle.source.specs.Sizes.{size_answer}
use Rattle.source.specs.Drawing.{opened}
use Rattle.packed.specs.declared.halves.Half.{Half}
use Rattle.packed.specs.Bits.{bit}

-- how many words a line of so many places takes
abbrev pub line_words : ℕ → ℕ
line_words long = (long + 63) / 64

-- the rows come first, each with a place for each column
abbrev pub by_rows : ℕ → ℕ → Half
by_rows rows cols = record { from = 0; lines = rows; long = cols }

-- the columns follow, each with a place for each row
abbrev pub by_cols : ℕ → ℕ → Half
by_cols rows cols = record { from = rows * line_words cols; lines = cols; long = rows }

-- how many words a plan takes
abbrev pub words_needed : ℕ → ℕ → ℕ
words_needed rows cols = rows * line_words cols + cols * line_words rows

-- the word that holds place i of line l: word j of a line holds the places 64 × j to 64 × j + 63
abbrev pub word_of : Half → ℕ → ℕ → ℕ
word_of h l i = h.from + (l * line_words h.long + i / 64)

-- whether place i of line l is closed
unfoldable pub shut : List ℕ → Half → ℕ → ℕ → Bool
shut words h l i = bit (slice_index words (word_of h l i)) (i % 64)

-- the plan that words mean
abbrev pub plan_of : ℕ → ℕ → List ℕ → Plan
plan_of rows cols words = record { rows = rows; cols = cols; free = λ r c. (nat_lt r rows && nat_lt c cols) && not (shut words (by_rows rows cols) r c) }

-- the bits of each line past its last place are set
abbrev pub Ended : List ℕ → Half → Type 0
Ended words h = (l i : ℕ) → (l < h.lines) × (h.long ≤ i) × (i < 64 * line_words h.long) → shut words h l i ≡ true

-- the columns say what the rows say
abbrev pub Agree : ℕ → ℕ → List ℕ → Type 0
Agree rows cols words = (r c : ℕ) → (r < rows) × (c < cols) → shut words (by_cols rows cols) c r ≡ shut words (by_rows rows cols) r c

-- The layout: the memory is long enough, the columns say what the rows say, and past the end of each line all is closed.
pub record Laid (rows cols : ℕ) (words : List ℕ) : Type 0 where
  pub fits : words_needed rows cols ≤ length words
  pub agree : Agree rows cols words
  pub row_ends : Ended words (by_rows rows cols)
  pub col_ends : Ended words (by_cols rows cols)

-- What marking leaves: all past the plan is as it was, and the layout holds where it held.
pub record Kept (rows cols : ℕ) (before after : List ℕ) : Type 0 where
  pub rest : drop (words_needed rows cols) after ≡ drop (words_needed rows cols) before
  pub laid : Laid rows cols before → Laid rows cols after

-- What making leaves, where the size check passes: a new plan, laid out in words of set bits, and all past it as it was.
pub record New (rows cols : ℕ) (before : List ℕ) (made : Plan) (after : List ℕ) : Type 0 where
  pub plan : made ≡ closed rows cols
  pub laid : Laid rows cols after
  pub ones : (k : ℕ) → k < words_needed rows cols → slice_index after k ≡ 2 ^ 64 - 1
  pub rest : drop (words_needed rows cols) after ≡ drop (words_needed rows cols) before

-- What making leaves, where the size check refuses: no rows and no columns, and the memory as it was.
pub record Unmade (before : List ℕ) (made : Plan) (after : List ℕ) : Type 0 where
  pub plan : made ≡ closed 0 0
  pub rest : after ≡ before

-- what making leaves, for every size and every memory
abbrev pub Made : ℕ → ℕ → List ℕ → Plan → List ℕ → Type 0
Made rows cols before made after =
    MatchResult (size_answer rows cols (length before) (words_needed rows cols)) (λ _. New rows cols before made after) (λ _. Unmade before made after)

-- What drawing leaves: the plan with these cells open, laid out in the memory, and all past it as it was; or the memory as it was.
abbrev pub Drawn : ℕ → ℕ → List Cell → List ℕ → List ℕ → Type 0
Drawn rows cols cells before after =
    MatchResult (size_answer rows cols (length before) (words_needed rows cols))
    (λ _. Laid rows cols after × (plan_of rows cols after ≡ opened (closed rows cols) cells) × (drop (words_needed rows cols) after ≡ drop (words_needed rows cols) before))
    (λ _. after ≡ before)
