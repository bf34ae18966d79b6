-- The way back from a finished place to the start: the cells at which it bends, the start first, the place's own cell left out.
use Rattle.std.specs.Prelude.{◌≡◌, ℕ, ◌<◌, cond, List, [], ◌∷◌, ◌++◌}
use Rattle.floor.specs.declared.Cell.{Cell}
use Rattle.floor.specs.Tally.{steps}
use Rattle.floor.specs.Plane.{same}
use Rattle.search.specs.declared.graph.Position.TheVariants.{Start, Place}
use Rattle.search.specs.declared.entry.Reached.{Reached}
use Rattle.search.specs.Mark.{Mark, Done}
use Rattle.places.specs.Leaps.{cell_of, heading_of}

-- the cells before a place, reached from another: the other's cell is one only if the heading changes there
abbrev pub bend : ℕ → ℕ → ℕ → List Cell → List Cell
bend cols j k cs = cond (same (heading_of j) (heading_of k)) cs (cs ++ cell_of cols j ∷ [])

-- A place reached from the start has the start alone; one reached from another place has what that one has, and its cell too where the way bends there.
pub data Trail (cols : ℕ) (s : Cell) (marks : ℕ → Mark) : ℕ → List Cell → Type 0 where
  direct : {k : ℕ} (r : Reached) → marks k ≡ Done r → r.from ≡ Start → Trail cols s marks k (s ∷ [])
  onward : {k : ℕ} (j : ℕ) (r : Reached) (cs : List Cell) → marks k ≡ Done r → r.from ≡ Place j → Trail cols s marks j cs → Trail cols s marks k (bend cols j k cs)

-- each finished place was reached from one with fewer steps
abbrev pub Falls : (ℕ → Mark) → Type 0
Falls marks = (k j : ℕ) (r b : Reached) → marks k ≡ Done r → r.from ≡ Place j → marks j ≡ Done b → steps b.counts < steps r.counts
