-- Steps from cell to cell, for cells whose row and column a machine can hold.
use Rattle.std.specs.Prelude.{◌≡◌, ℕ, zero, suc, ◌^◌, ◌<◌, ◌≤◌, ℤ, pos, negsuc, ◌+ℤ◌, Some, None, Option, Ok, Err, Result, ◌≢◌}
use Rattle.floor.specs.declared.Cell.{Cell}
use Rattle.floor.specs.declared.Heading.{Heading}
use Rattle.floor.specs.declared.shifts.Shift.{Shift}
use Rattle.floor.specs.declared.shifts.Shift.TheVariants.{Less, Same, More}
use Rattle.floor.specs.declared.headings.NoHeading.{NoHeading}
use Rattle.floor.specs.Plane.{point, heading, step}

-- what a shift adds
abbrev pub by : Shift → ℤ
by Less = negsuc 0
by Same = pos 0
by More = pos 1

-- the number that lies d from n, or none if no number of 64 bits does
abbrev pub Shifted : ℤ → ℕ → Option ℕ → Type 0
Shifted d n (Some m) = pos m ≡ pos n +ℤ d
Shifted d n None = (m : ℕ) → m < 2 ^ 64 → pos m ≢ pos n +ℤ d

-- the cell to which the step h from c leads, or none if no cell with a row and a column of 64 bits lies there
abbrev pub Stepped : Cell → Heading → Option Cell → Type 0
Stepped c h (Some d) = point d ≡ step h (point c)
Stepped c h None = (d : Cell) → d.row < 2 ^ 64 → d.col < 2 ^ 64 → point d ≢ step h (point c)

-- a row or a column after k steps
abbrev pub shifted : ℤ → ℕ → ℤ → ℤ
shifted d zero z = z
shifted d (suc k) z = shifted d k (z +ℤ d)

-- After how many steps, at least 1, a shifted row or column comes to another. Some tells the only number of steps that leads there; None says that none does.
-- A shift that stays is at its own number after every number of steps, and at no other ever: no number is the only one, so its answer is always None.
abbrev pub Meets : Shift → ℕ → ℕ → Option ℕ → Type 0
Meets s from to (Some k) = (1 ≤ k) × (shifted (by s) k (pos from) ≡ pos to) × ((i : ℕ) → shifted (by s) i (pos from) ≡ pos to → i ≡ k)
Meets s from to None = (s ≢ Same) → (i : ℕ) → 1 ≤ i → shifted (by s) i (pos from) ≢ pos to

-- the heading of a number, or that it has none
abbrev pub Numbered : ℕ → Result Heading NoHeading → Type 0
Numbered n (Ok h) = heading n ≡ Some h
Numbered n (Err _) = heading n ≡ None
