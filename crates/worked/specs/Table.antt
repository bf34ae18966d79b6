-- The examples, line by line.
use Rattle.std.specs.Prelude.{ℕ, Bool, true, false, List, [], ◌∷◌, Ok, Err}
use Rattle.floor.specs.declared.Heading.TheVariants.{NorthEast}
use Rattle.floor.specs.Tally.{counts}
use Rattle.rate.specs.declared.Comparison.TheVariants.{Cheaper, Same}
use Rattle.listing.specs.declared.millimetres.Refusal.TheVariants.{Side}
use Rattle.worked.specs.Examples.{cell, Sketch, Example, jumps, runs, succeeds, compares, measures}

-- three rows of five, with one cell closed at the upper edge
abbrev pub corridor : Sketch
corridor = record { rows = 3; cols = 5; shut = cell 0 1 ∷ [] }

-- three rows of three, all open
abbrev pub room : Sketch
room = record { rows = 3; cols = 3; shut = [] }

-- the room with a pillar in the middle
abbrev pub pillar : Sketch
pillar = record { rows = 3; cols = 3; shut = cell 1 1 ∷ [] }

-- the answer of a jump
abbrev pub live : ℕ → ℕ × Bool
live k = (k, true)

abbrev pub dead : ℕ → ℕ × Bool
dead k = (k, false)

-- all examples
abbrev pub table : List Example
table =
    runs corridor (cell 0 0) (cell 0 2) (counts 4 0)
    ∷ runs corridor (cell 2 0) (cell 0 2) (counts 2 1)
    ∷ runs room (cell 0 0) (cell 2 2) (counts 0 2)
    ∷ runs pillar (cell 0 0) (cell 2 2) (counts 4 0)
    ∷ jumps corridor (cell 1 0) 2 (live 2) 2
    ∷ jumps corridor (cell 2 0) 2 (dead 4) 32772
    ∷ jumps corridor (cell 1 4) 6 (live 4) 4
    ∷ jumps corridor (cell 2 0) 1 (live 1) 1
    ∷ jumps corridor (cell 0 0) 3 (dead 0) 32768
    ∷ jumps corridor (cell 0 1) 4 (dead 0) 32768
    ∷ jumps corridor (cell 1 0) 8 (dead 0) 32768
    ∷ succeeds room (cell 2 0) (cell 1 2) NorthEast (cell 1 1)
    ∷ compares (counts 7 0) (counts 0 5) Cheaper Same
    ∷ measures 1000 (counts 0 2) (Ok 2829)
    ∷ measures 2000 (counts 3 0) (Ok 6000)
    ∷ measures 0 (counts 3 0) (Err Side)
    ∷ measures 2001 (counts 3 0) (Err Side)
    ∷ []
