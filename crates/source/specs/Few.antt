-- How large plans are.
use Rattle.std.specs.Prelude.{◌≡◌, ℕ, ◌≤◌}

-- 1 to 128 rows and columns, or none of either
abbrev pub Few : ℕ → ℕ → Type 0
Few rows cols = (rows ≤ 128) × (cols ≤ 128) × (rows ≡ 0 → cols ≡ 0) × (cols ≡ 0 → rows ≡ 0)
