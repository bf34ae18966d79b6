-- What it is to compare counts, and the laws that every rate keeps.
use Rattle.std.specs.Prelude.{◌≡◌, ℕ, ◌≤◌, min, Bool, true, false}
use Rattle.floor.specs.declared.Counts.{Counts}
use Rattle.floor.specs.Tally.{counts, none, plus}
use Rattle.rate.specs.declared.Comparison.{Comparison}
use Rattle.rate.specs.declared.Comparison.TheVariants.{Cheaper, Same, Dearer}

-- the same comparison, seen from the other side
abbrev pub turned : Comparison → Comparison
turned Cheaper = Dearer
turned Same = Same
turned Dearer = Cheaper

-- at least as much: same or dearer
abbrev pub at_least : Comparison → Bool
at_least Cheaper = false
at_least Same = true
at_least Dearer = true

-- counts go up to this limit
abbrev pub limit : ℕ
limit = 1048576

-- neither count lies above it
abbrev pub Within : Counts → Type 0
Within x = (x.straight ≤ limit) × (x.diagonal ≤ limit)

-- a larger count is compared as the limit
abbrev pub capped : Counts → Counts
capped x = counts (min x.straight limit) (min x.diagonal limit)

module _ (order : Counts → Counts → Comparison) where
  -- x costs at least as much as y
  abbrev pub AtLeast : Counts → Counts → Type 0
  AtLeast x y = at_least (order x y) ≡ true

  -- The laws. That any two counts compare, `order` being a function says already.
  pub record Lawful : Type 0 where
    -- turned about, two counts answer the reverse
    pub turns : (x y : Counts) → order y x ≡ turned (order x y)
    -- at least as much is transitive
    pub passes : (x y z : Counts) → AtLeast x y → AtLeast y z → AtLeast x z
    -- adding the same counts to both sides leaves the answer, within the limit
    pub shifts : (x y z : Counts) → Within (plus x z) → Within (plus y z) → order (plus x z) (plus y z) ≡ order x y
    -- nothing is cheaper than a straight step, which is cheaper than a diagonal one, which is cheaper than two straight ones
    pub nothing_straight : order none (counts 1 0) ≡ Cheaper
    pub straight_diagonal : order (counts 1 0) (counts 0 1) ≡ Cheaper
    pub diagonal_two : order (counts 0 1) (counts 2 0) ≡ Cheaper
    -- a count above the limit is compared as the limit
    pub caps : (x y : Counts) → order x y ≡ order (capped x) (capped y)
