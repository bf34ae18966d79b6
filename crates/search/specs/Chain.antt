-- Chains of edges, and what is asked of a graph.
use Rattle.std.specs.Prelude.{◌≡◌, ℕ, ◌*◌, ◌^◌, ◌<◌, ◌≤◌, Bool, true, List, Some, None, Option, slice_index_or}
use Rattle.floor.specs.declared.Counts.{Counts}
use Rattle.floor.specs.Tally.{none, plus, steps}
use Rattle.rate.specs.declared.Comparison.{Comparison}
use Rattle.rate.specs.Laws.{Lawful, AtLeast}
use Rattle.search.specs.declared.graph.Position.{Position}
use Rattle.search.specs.declared.graph.Position.TheVariants.{Start, Place}
use Rattle.search.specs.declared.graph.Edge.{Edge}

-- An edge that would take a chain past so many steps is not followed.
abbrev pub most : ℕ
most = 32768

-- the start, or a place below n
abbrev pub Inside : ℕ → Position → Type 0
Inside n Start = Unit {0}
Inside n (Place k) = k < n

-- the edges of all turns out of one position, in the order of the turns
abbrev pub Edges : (ℕ → Option Edge) → List (Option Edge) → Type 0
Edges out es = (t : ℕ) → t < 8 → slice_index_or es t None ≡ out t

-- a chain of edges from the start to a position, with its counts
pub data Chain (out : Position → ℕ → Option Edge) : Position → Counts → Type 0 where
  start : Chain out Start none
  step : (q : Position) (c : Counts) (t : ℕ) (e : Edge) → Chain out q c → t < 8 → out q t ≡ Some e → Chain out (Place e.to) (plus c e.counts)

-- an edge goes to a place, by some steps and not too many
pub record Fits (n : ℕ) (e : Edge) : Type 0 where
  pub inside : e.to < n
  pub some : 1 ≤ steps e.counts
  pub few : steps e.counts ≤ most

-- x is dearer than y under no rate
abbrev pub NeverDearer : Counts → Counts → Type 0
NeverDearer x y = (order : Counts → Counts → Comparison) → Lawful order → AtLeast order y x

-- a chain to a goal with few enough steps that whatever costs no more is found, though no chain past the most steps is followed
pub record Short (out : Position → ℕ → Option Edge) (goal : ℕ → Bool) (c : Counts) : Type 0 where
  pub place : ℕ
  pub hit : goal place ≡ true
  pub counts : Counts
  pub chain : Chain out (Place place) counts
  pub short : 2 * steps counts ≤ most
  pub cheap : NeverDearer counts c

-- What is asked of a graph: its edges fit, and every chain to a goal has a short one that is never dearer.
pub record Sound (n : ℕ) (out : Position → ℕ → Option Edge) (goal : ℕ → Bool) : Type 0 where
  pub numbered : n ≤ 2 ^ 32
  pub fits : (p : Position) (t : ℕ) (e : Edge) → out p t ≡ Some e → Fits n e
  pub short : (k : ℕ) (c : Counts) → goal k ≡ true → Chain out (Place k) c → Short out goal c
