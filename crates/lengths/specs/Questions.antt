-- The questions put to each call, in order. The first 'no' answers with its refusal.
use Rattle.std.specs.Prelude.{ℕ, ◌*◌, Bool, cond, ◌&&◌, List, [], ◌∷◌, ◌++◌, Some, None, Option, nat_le}
use Rattle.floor.specs.declared.Cell.{Cell}
use Rattle.floor.specs.Plans.{Plan, inside, is_open}
use Rattle.lengths.specs.declared.answers.Refusal.{Refusal}
use Rattle.lengths.specs.declared.answers.Refusal.TheVariants.{Outside, TargetOutside, Closed, TargetClosed, ShortWork, ShortCorners, NoRoute}

-- the number of each refusal
abbrev pub number : Refusal → ℕ
number Outside = 1
number TargetOutside = 2
number Closed = 3
number TargetClosed = 4
number ShortWork = 5
number ShortCorners = 6
number NoRoute = 7

-- a question, as its answer and what is refused where that is no
pub record Question (A : Type 0) : Type 0 where
  pub yes_to : Bool
  pub else : A

-- a question of this answer, with what is refused where it is no
abbrev pub ask : {A : Type 0} → Bool → A → Question A
ask b e = record { yes_to = b; else = e }

-- the refusal of the first question that is answered no, if there is one
abbrev pub first_no : {A : Type 0} → List (Question A) → Option A
first_no [] = None
first_no (q ∷ qs) = cond q.yes_to (first_no qs) (Some q.else)

-- open and close: is the cell inside?
abbrev pub mark_questions : Plan → Cell → List (Question Refusal)
mark_questions p c = ask (inside p c) Outside ∷ []

-- how many entries each work list must hold: eight places to a cell
abbrev pub places : Plan → ℕ
places p = 8 * (p.rows * p.cols)

-- a length: are start and target inside, are they open, do the two work lists, of these lengths, hold enough entries?
abbrev pub length_questions : Plan → Cell → Cell → ℕ → ℕ → List (Question Refusal)
length_questions p s t w v =
    ask (inside p s) Outside ∷ ask (inside p t) TargetOutside ∷ ask (is_open p s) Closed ∷ ask (is_open p t) TargetClosed ∷
    ask (nat_le (places p) w && nat_le (places p) v) ShortWork ∷ []

-- a route: the same, and does the corner list hold an entry for each cell?
abbrev pub route_questions : Plan → Cell → Cell → ℕ → ℕ → ℕ → List (Question Refusal)
route_questions p s t w v c = length_questions p s t w v ++ ask (nat_le (p.rows * p.cols) c) ShortCorners ∷ []
