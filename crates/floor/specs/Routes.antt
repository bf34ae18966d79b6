-- Routes: where one starts, and the headings that it takes step by step.
use Rattle.std.specs.Prelude.{◌≡◌, Bool, true, cond, List, [], ◌∷◌, ◌≢◌}
use Rattle.floor.specs.declared.Cell.{Cell}
use Rattle.floor.specs.declared.Counts.{Counts}
use Rattle.floor.specs.declared.Heading.{Heading}
use Rattle.floor.specs.Tally.{counts, none, plus}
use Rattle.floor.specs.Plane.{Point, point, same, opposite, diagonal, step}
use Rattle.floor.specs.Plans.{Plan, opens, legal}

-- where these steps lead
abbrev pub end : Point → List Heading → Point
end x [] = x
end x (h ∷ hs) = end (step h x) hs

-- the cells of a route, the first and the last among them
abbrev pub cells : Point → List Heading → List Point
cells x [] = x ∷ []
cells x (h ∷ hs) = x ∷ cells (step h x) hs

-- the counts of one step
abbrev pub one : Heading → Counts
one h = cond (diagonal h) (counts 0 1) (counts 1 0)

-- how many of the steps are straight, and how many diagonal
abbrev pub tally : List Heading → Counts
tally [] = none
tally (h ∷ hs) = plus (one h) (tally hs)

-- what is left of the corners at x, reached with the heading h: each cell where the heading changes, and the last
abbrev pub bends : Point → Heading → List Heading → List Point
bends x h [] = x ∷ []
bends x h (g ∷ hs) = cond (same h g) (bends (step g x) g hs) (x ∷ bends (step g x) g hs)

-- the corners: the first cell, each cell where the heading changes, the last cell; one for a route of one cell
abbrev pub corners : Point → List Heading → List Point
corners x [] = x ∷ []
corners x (h ∷ hs) = x ∷ bends (step h x) h hs

-- x is none of them
abbrev pub Apart : {A : Type 0} → A → List A → Type 0
Apart x [] = Unit {0}
Apart x (y ∷ ys) = (x ≢ y) × Apart x ys

-- none comes twice
abbrev pub Distinct : {A : Type 0} → List A → Type 0
Distinct [] = Unit {0}
Distinct (x ∷ xs) = Apart x xs × Distinct xs

-- A laying says which steps may be taken where these cells are open.
abbrev pub Laying : Type 0
Laying = (Point → Bool) → Point → Heading → Bool

module _ (may : Laying) (free : Point → Bool) where
  -- each step may be taken
  abbrev pub Walk : Point → List Heading → Type 0
  Walk x [] = Unit {0}
  Walk x (h ∷ hs) = (may free x h ≡ true) × Walk (step h x) hs

  -- a route from s to t with these counts; one open cell alone is a route
  pub record Laid (s t : Point) (n : Counts) : Type 0 where
    pub headings : List Heading
    pub starts : free s ≡ true
    pub walks : Walk s headings
    pub ends : end s headings ≡ t
    pub counted : tally headings ≡ n

-- all cells open in the first are open in the second
abbrev pub Grows : (Point → Bool) → (Point → Bool) → Type 0
Grows free more = (x : Point) → free x ≡ true → more x ≡ true

-- What the facts about routes need of a laying: steps join open cells, may be taken back, and stay when cells are opened.
pub record Fair (may : Laying) : Type 0 where
  pub leaves : (free : Point → Bool) (x : Point) (h : Heading) → may free x h ≡ true → free x ≡ true
  pub arrives : (free : Point → Bool) (x : Point) (h : Heading) → may free x h ≡ true → free (step h x) ≡ true
  pub back : (free : Point → Bool) (x : Point) (h : Heading) → may free x h ≡ true → may free (step h x) (opposite h) ≡ true
  pub stays : (free more : Point → Bool) → Grows free more → (x : Point) (h : Heading) → may free x h ≡ true → may more x h ≡ true

-- a legal route of a plan
abbrev pub Route : Plan → Cell → Cell → Counts → Type 0
Route p s t n = Laid legal (opens p) (point s) (point t) n
