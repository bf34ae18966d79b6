-- Counts as pairs of whole numbers, of any size.
use Rattle.std.specs.Prelude.{ℕ, ◌+◌, ◌*◌, ◌≤◌}
use Rattle.floor.specs.declared.Counts.{Counts}

-- so many straight and so many diagonal steps
abbrev pub counts : ℕ → ℕ → Counts
counts a b = record { straight = a; diagonal = b }

-- no steps
abbrev pub none : Counts
none = counts 0 0

-- the counts of one route after another
abbrev pub plus : Counts → Counts → Counts
plus x y = counts (x.straight + y.straight) (x.diagonal + y.diagonal)

-- all steps, of both kinds
abbrev pub steps : Counts → ℕ
steps x = x.straight + x.diagonal

-- the steps that are left when each diagonal one is laid as two straight ones
abbrev pub blocks : Counts → ℕ
blocks x = x.straight + 2 * x.diagonal

-- x has no more steps than y, and no more blocks: under every lawful rate it costs no more
pub record Dominates (x y : Counts) : Type 0 where
  pub fewer : steps x ≤ steps y
  pub shorter : blocks x ≤ blocks y
