-- The equations of a table: each label follows from the label one step on, from the legality of that step, and from what its end is like.
use Rattle.std.specs.Prelude.{◌≡◌, ℕ, ◌+◌, ◌*◌, ◌%◌, ◌^◌, Bool, true, cond, ◌&&◌, ◌||◌, ◌⊎◌, List, [], ◌∷◌, ◌++◌, drop, ℤ, pos, negsuc, nat_lt, slice_index, slice_set}
use Rattle.floor.specs.declared.Cell.{Cell}
use Rattle.floor.specs.declared.Heading.{Heading}
use Rattle.floor.specs.declared.Heading.TheVariants.{North, NorthEast, East, SouthEast, South, SouthWest, West, NorthWest}
use Rattle.floor.specs.declared.Side.TheVariants.{Left, Right}
use Rattle.floor.specs.Plane.{Point, point, number, turn, opposite, diagonal, step}
use Rattle.floor.specs.Plans.{Plan, Sized, opens, legal}
use Rattle.floor.specs.Jumps.{stops, jump_from}
use Rattle.source.specs.Labels.{label_of}
use Rattle.table.specs.Layout.{plan_of, needed, begins}
use Rattle.table.specs.declared.mending.Change.{Change}
use Rattle.table.specs.declared.mending.Change.TheVariants.{Same, Steps, Life}

-- the label of a jump of no steps: dead
abbrev pub dead : ℕ
dead = 32768

-- whether a label is of a live jump
abbrev pub live : ℕ → Bool
live n = nat_lt n 32768

-- the label of a jump with one step more, of the same end
abbrev pub one_on : ℕ → ℕ
one_on n = (n + 1) % 2 ^ 16

-- the labels of all points; off the plan they are dead
abbrev pub label_at : ℕ → ℕ → List ℕ → ℤ → ℤ → Heading → ℕ
label_at rows cols numbers (pos r) (pos c) h = cond (nat_lt r rows && nat_lt c cols) (slice_index numbers (9 * (r * cols + c) + number h)) dead
label_at rows cols numbers (pos r) (negsuc c) h = dead
label_at rows cols numbers (negsuc r) (pos c) h = dead
label_at rows cols numbers (negsuc r) (negsuc c) h = dead

-- the same, by the point
unfoldable pub label_of_point : ℕ → ℕ → List ℕ → Point → Heading → ℕ
label_of_point rows cols numbers x h = label_at rows cols numbers x.row x.col h

module _ (free : Point → Bool) (label : Point → Heading → ℕ) where
  -- Where the step h from x ends, a jump of this heading ends: a straight one at a stop, a diagonal one where a straight label beside is live.
  unfoldable pub ends : Point → Heading → Bool
  ends x h = cond (diagonal h) (live (label (step h x) (turn Left h)) || live (label (step h x) (turn Right h))) (stops free x h)

  -- what the label should be, by the labels one step on
  unfoldable pub due : Point → Heading → ℕ
  due x h = cond (legal free x h) (cond (ends x h) 1 (one_on (label (step h x) h))) dead

  -- the equation of a point and a heading: the label is what it should be
  abbrev pub Holds : Point → Heading → Type 0
  Holds x h = label x h ≡ due x h

-- the same by the numbers of a table
abbrev pub ends_in : ℕ → ℕ → List ℕ → Point → Heading → Bool
ends_in rows cols numbers = ends (opens (plan_of rows cols numbers)) (label_of_point rows cols numbers)

abbrev pub due_in : ℕ → ℕ → List ℕ → Point → Heading → ℕ
due_in rows cols numbers = due (opens (plan_of rows cols numbers)) (label_of_point rows cols numbers)

abbrev pub HoldsIn : ℕ → ℕ → List ℕ → Point → Heading → Type 0
HoldsIn rows cols numbers = Holds (opens (plan_of rows cols numbers)) (label_of_point rows cols numbers)

-- A table in which every equation holds is the defined one, and in the defined one every equation holds.
pub record Define (p : Plan) (label : Point → Heading → ℕ) : Type 0 where
  pub only : ((x : Point) (h : Heading) → Holds (opens p) label x h) → (x : Point) (h : Heading) → label x h ≡ label_of (jump_from p x h)
  pub all : ((x : Point) (h : Heading) → label x h ≡ label_of (jump_from p x h)) → (x : Point) (h : Heading) → Holds (opens p) label x h

-- That is so on every plan within the limits, whatever the labels.
abbrev pub EquationsDefine : Type 0
EquationsDefine = (p : Plan) → Sized p → (label : Point → Heading → ℕ) → Define p label

-- where a walk is to begin: a point, and the heading whose label may not be right there
pub record Seed : Type 0 where
  pub at : Point
  pub towards : Heading

-- the seed of a point and a heading
abbrev pub seed : Point → Heading → Seed
seed x h = record { at = x; towards = h }

-- one of the seeds is this point with this heading
abbrev pub Among : Point → Heading → List Seed → Type 0
Among x h [] = ⊥
Among x h (s ∷ ss) = ((x ≡ s.at) × (h ≡ s.towards)) ⊎ Among x h ss

-- every equation holds but at the seeds that are still to be walked from
abbrev pub HoldsBut : (Point → Bool) → (Point → Heading → ℕ) → List Seed → Type 0
HoldsBut free label ss = (x : Point) (h : Heading) → Holds free label x h ⊎ Among x h ss

-- the same of the equations of a table
unfoldable pub Mended : ℕ → ℕ → List ℕ → List Seed → Type 0
Mended rows cols numbers ss = HoldsBut (opens (plan_of rows cols numbers)) (label_of_point rows cols numbers) ss

-- Only labels were written: the ninth number of each cell, and all past the plan, is as it was.
pub record Relabelled (rows cols : ℕ) (before after : List ℕ) : Type 0 where
  pub openings : (k : ℕ) → slice_index after (9 * k + 8) ≡ slice_index before (9 * k + 8)
  pub rest : drop (needed rows cols) after ≡ drop (needed rows cols) before

-- Mending on from some seeds to others: whatever seeds there are besides, and by writing labels only.
pub record Mends (rows cols : ℕ) (before : List ℕ) (ss : List Seed) (after : List ℕ) (ts : List Seed) : Type 0 where
  pub leaves : (w : List Seed) → Mended rows cols before (ss ++ w) → Mended rows cols after (ts ++ w)
  pub kept : Relabelled rows cols before after

-- what is written where the label of a cell inside is put right
pub record Written (rows cols : ℕ) (before : List ℕ) (c : Cell) (h : Heading) (after : List ℕ) : Type 0 where
  pub within : (nat_lt c.row rows && nat_lt c.col cols) ≡ true
  pub put : after ≡ slice_set before (begins cols c + number h) (due_in rows cols before (point c) h)

-- how the label of a cell changed when it was put right: not at all, in its steps alone, or from live to dead or back
abbrev pub PutRight : ℕ → ℕ → List ℕ → Cell → Heading → List ℕ → Change → Type 0
PutRight rows cols before c h after Same = (after ≡ before) × HoldsIn rows cols before (point c) h
PutRight rows cols before c h after Steps = Written rows cols before c h after × (live (label_of_point rows cols before (point c) h) ≡ live (due_in rows cols before (point c) h))
PutRight rows cols before c h after Life = Written rows cols before c h after

-- where a mark at x may break an equation of the heading h: at x, and at those points around x from which the step h, or the cells beside it, can reach x
unfoldable pub seeds : Point → Heading → List Seed
seeds x h =
    seed x h ∷
    seed (step (opposite h) x) h ∷
    seed (step (turn Left (opposite h)) x) h ∷
    seed (step (turn Right (opposite h)) x) h ∷
    cond (diagonal h) [] (seed (step (turn Left (turn Left (opposite h))) x) h ∷ seed (step (turn Right (turn Right (opposite h))) x) h ∷ [])

-- the seeds of some headings
unfoldable pub seeds_of : Point → List Heading → List Seed
seeds_of x [] = []
seeds_of x (h ∷ hs) = seeds x h ++ seeds_of x hs

-- all headings, straight ones first, since diagonal labels look at straight ones
abbrev pub straight_first : List Heading
straight_first = North ∷ East ∷ South ∷ West ∷ NorthEast ∷ SouthEast ∷ SouthWest ∷ NorthWest ∷ []

-- the seeds of all headings
abbrev pub all_seeds : Point → List Seed
all_seeds x = seeds_of x straight_first
