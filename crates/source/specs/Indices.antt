-- The indices of the cells of a plan: they are counted row by row.
use Rattle.std.specs.Prelude.{◌≡◌, ℕ, ◌+◌, ◌*◌, ◌<◌, ◌&&◌, Some, None, Option, cond, nat_lt}
use Rattle.floor.specs.declared.Cell.{Cell}

-- the index of a cell inside; one outside has none
abbrev pub index_in : ℕ → ℕ → Cell → Option ℕ
index_in rows cols c = cond (nat_lt c.row rows && nat_lt c.col cols) (Some (c.row * cols + c.col)) None

-- No two cells inside have one index: of this cell's index, if it has one, every cell that has it is this one.
abbrev pub ItsOwn : ℕ → ℕ → Cell → Option ℕ → Type 0
ItsOwn rows cols c (Some i) = (d : Cell) → index_in rows cols d ≡ Some i → d ≡ c
ItsOwn rows cols c None = Unit {0}

-- No index is left out: each number below rows × columns is that of a cell inside.
abbrev pub NoneLeftOut : ℕ → ℕ → Type 0
NoneLeftOut rows cols = (i : ℕ) → i < rows * cols → (c : Cell) × (index_in rows cols c ≡ Some i)
