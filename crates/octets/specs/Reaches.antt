-- How far straight headings lead from a cell, and how the index of a cell moves with each step.
use Rattle.std.specs.Prelude.{ℕ, zero, suc, ◌+◌, ◌-◌, ◌^◌, ◌<◌, ◌≤◌, Bool, cond, not, ◌&&◌, List, ℤ, pos, negsuc, nat_lt}
use Rattle.floor.specs.declared.Cell.{Cell}
use Rattle.floor.specs.declared.Heading.{Heading}
use Rattle.floor.specs.Plane.{down, across}
use Rattle.octets.specs.declared.reaches.Stride.{Stride}
use Rattle.octets.specs.declared.reaches.Stride.TheVariants.{On, Back}
use Rattle.octets.specs.declared.reaches.Reach.{Reach}
use Rattle.octets.specs.Layout.{free_at}

-- where a stride leads from an index
abbrev pub moved : Stride → ℕ → ℕ
moved (On k) i = i + k
moved (Back k) i = i - k

-- a stride on leads to an index of 64 bits, a stride back to none below 0
abbrev pub CanMove : Stride → ℕ → Type 0
CanMove (On k) i = i + k < 2 ^ 64
CanMove (Back k) i = k ≤ i

-- from an index to one below n
abbrev pub Leads : Stride → ℕ → ℕ → Type 0
Leads s i n = CanMove s i × (moved s i < n)

-- the reach from a place among so many, whose indices lie so far apart, if each step adds this to the place
abbrev pub reach_along : ℕ → ℕ → ℕ → ℤ → Reach
reach_along place places gap (pos d) = record { room = places - 1 - place; stride = On gap }
reach_along place places gap (negsuc d) = record { room = place; stride = Back gap }

-- the reach of a straight heading from a cell: along its row if the heading stays there, and else along its column
abbrev pub reach_of : ℕ → ℕ → Cell → Heading → Reach
reach_of rows cols c h = elim (down h) [
  | pos zero ↦ reach_along c.col cols 1 (across h)
  | pos (suc d) ↦ reach_along c.row rows cols (pos (suc d))
  | negsuc d ↦ reach_along c.row rows cols (negsuc d)
]

-- the stride of one step of a straight heading, and none where there is no room for it
abbrev pub beside : ℕ → ℕ → Cell → Heading → Stride
beside rows cols c h = cond (nat_lt 0 (reach_of rows cols c h).room) (reach_of rows cols c h).stride (On 0)

-- whether the cell a stride away is closed from one index and open from the next
abbrev pub opens_beside : List ℕ → ℕ → ℕ → Stride → Bool
opens_beside bytes i j aside = not (free_at bytes (moved aside i)) && free_at bytes (moved aside j)
