use Rattle.floor.proofs.Kept.{marks_one_cell}
use Rattle.floor.proofs.facts.marks_one_cell.Goals as goal

pub returns : goal.returns
returns c = marks_one_cell
