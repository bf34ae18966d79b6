use Rattle.pruning.proofs.Going.{side_added}
use Rattle.pruning.proofs.goings.StraightPlace.including_side.Goals as goal

pub returns-then-is_stop : goal.returns-then-is_stop
returns-then-is_stop g c = side_added _ _ _ c.args.side _ _ _ _ _ c.turn.ensures c.aside.ensures c.if-is_stop.ensures c.including.ensures c.including-then-is_stop.ensures
