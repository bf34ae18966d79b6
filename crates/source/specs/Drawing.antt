-- Drawing a plan cell by cell.
use Rattle.std.specs.Prelude.{true, cond, List, fold}
use Rattle.floor.specs.declared.Cell.{Cell}
use Rattle.floor.specs.Plans.{Plan, inside, marked}

-- the plan with a cell opened, if it lies inside
abbrev pub open_one : Plan → Cell → Plan
open_one p c = cond (inside p c) (marked p c true) p

-- the plan with these cells opened, one after another
abbrev pub opened : Plan → List Cell → Plan
opened p cells = fold open_one p cells
