-- Plans on the way to having no open cell.
use Rattle.std.specs.Prelude.{ℕ, false, cond, ◌&&◌, ◌==◌, nat_lt}
use Rattle.floor.specs.Plans.{Plan}

-- the plan with the first cells of a row closed
abbrev pub shut_row : Plan → ℕ → ℕ → Plan
shut_row p row n = record { rows = p.rows; cols = p.cols; free = λ r c. cond (r == row && nat_lt c n) false (p.free r c) }

-- the plan with its first rows closed
abbrev pub shut_rows : Plan → ℕ → Plan
shut_rows p n = record { rows = p.rows; cols = p.cols; free = λ r c. cond (nat_lt r n) false (p.free r c) }
