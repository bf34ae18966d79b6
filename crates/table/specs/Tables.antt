-- Mending one table.
use Rattle.std.specs.Prelude.{◌≡◌, List, [], ◌∷◌, map, Some, None, Option}
use Rattle.floor.specs.declared.Cell.{Cell}
use Rattle.floor.specs.declared.Heading.{Heading}
use Rattle.floor.specs.Plane.{Point, point, step}
use Rattle.table.specs.Equations.{Seed, seed, Mends}
use Rattle.table.specs.declared.mending.Table.{Table}

-- of the same size, and over the same numbers
pub record Stays (before after : Table) : Type 0 where
  pub size : after.size ≡ before.size
  pub memory : after.numbers.ghost_name ≡ before.numbers.ghost_name

-- mending on, in the same table
pub record MendsOn (before : Table) (ss : List Seed) (after : Table) (ts : List Seed) : Type 0 where
  pub stays : Stays before after
  pub mends : Mends before.size.rows before.size.cols before.numbers.now ss after.numbers.now ts

-- the seed of a walk that begins at a cell, if there is one
abbrev pub seed_at : Option Cell → Heading → List Seed
seed_at (Some c) h = seed (point c) h ∷ []
seed_at None h = []

-- the seeds next to a point on some sides
abbrev pub seeds_around : Point → List Heading → Heading → List Seed
seeds_around x sides h = map (λ k. seed (step k x) h) sides
