-- What follows from the laws, for every rate: the facts that finding cheapest routes rests on.
use Rattle.std.specs.Prelude.{◌≡◌, ◌*◌, ◌<◌, ◌≤◌, ◌⊎◌}
use Rattle.floor.specs.declared.Counts.{Counts}
use Rattle.floor.specs.Tally.{plus, steps, blocks, Dominates}
use Rattle.rate.specs.declared.Comparison.{Comparison}
use Rattle.rate.specs.declared.Comparison.TheVariants.{Cheaper, Same}
use Rattle.rate.specs.Laws.{Within, AtLeast}

-- x has fewer steps than y, and fewer blocks
pub record Outdoes (x y : Counts) : Type 0 where
  pub fewer : steps x < steps y
  pub shorter : blocks x < blocks y

-- x has no more straight and no more diagonal steps than y
pub record Part (x y : Counts) : Type 0 where
  pub straights : x.straight ≤ y.straight
  pub diagonals : x.diagonal ≤ y.diagonal

module _ (order : Counts → Counts → Comparison) where
  -- x costs less than y
  abbrev pub LessThan : Counts → Counts → Type 0
  LessThan x y = order x y ≡ Cheaper

  -- What follows from the laws for one rate.
  pub record Facts : Type 0 where
    -- counts cost the same as themselves
    pub itself : (x : Counts) → order x x ≡ Same
    -- less or at least as much, one of the two and never both; and at least as much one way or the other
    pub decided : (x y : Counts) → LessThan x y ⊎ AtLeast order x y
    pub apart : (x y : Counts) → LessThan x y → AtLeast order x y → ⊥
    pub back : (x y : Counts) → LessThan x y → AtLeast order y x
    pub either : (x y : Counts) → AtLeast order x y ⊎ AtLeast order y x
    -- less than y, and so less than what costs at least y; at most y, and so less than what costs more
    pub less_then : (x y z : Counts) → LessThan x y → AtLeast order z y → LessThan x z
    pub then_less : (x y z : Counts) → AtLeast order y x → LessThan y z → LessThan x z
    -- within the limit the answer depends on the differences alone
    pub differences : (x y x' y' : Counts) → Within x → Within y → Within x' → Within y' → plus x y' ≡ plus x' y → order x y ≡ order x' y'
    -- what costs at least as much, leg by leg, costs at least as much in sum, within the limit
    pub sums : (x y x' y' : Counts) → Within (plus x x') → Within (plus y y') → AtLeast order x y → AtLeast order x' y' → AtLeast order (plus x x') (plus y y')
    -- the whole costs at least as much as a part, beyond the limit too
    pub part : (x y : Counts) → Part x y → AtLeast order y x
    pub longer : (x y : Counts) → AtLeast order (plus x y) x
    -- what dominates y costs at most y, and what outdoes it less, within the limit
    pub dominance : (x y : Counts) → Within x → Within y → Dominates x y → AtLeast order y x
    pub outdone : (x y : Counts) → Within x → Within y → Outdoes x y → LessThan x y
    -- what costs at most y has no more steps than y has blocks, and at most twice as many blocks as y has steps
    pub few_steps : (x y : Counts) → Within x → Within y → AtLeast order y x → steps x ≤ blocks y
    pub few_blocks : (x y : Counts) → Within x → Within y → AtLeast order y x → blocks x ≤ 2 * steps y
