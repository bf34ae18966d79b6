-- The corridor on a source.
use Rattle.std.specs.Prelude.{Bool, ◌&&◌, ◌==◌}
use Rattle.floor.specs.Plans.{Plan}
use Rattle.worked.specs.Table.{corridor}

-- the plan has the corridor's rows and columns
abbrev pub fits : Plan → Bool
fits p = p.rows == corridor.rows && p.cols == corridor.cols
