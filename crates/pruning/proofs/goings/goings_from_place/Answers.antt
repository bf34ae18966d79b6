use Rattle.pruning.proofs.Going.{diagonal_goings, straight_goings}
use Rattle.pruning.proofs.goings.goings_from_place.Goals as goal

pub returns-then-is_diagonal : goal.returns-then-is_diagonal
returns-then-is_diagonal g c =
    diagonal_goings _ _ _ _ _ _ _ _ c.if-is_diagonal.ensures c.turn.ensures c.turn-then-is_diagonal.ensures
    c.including-ahead.ensures c.including-left.ensures c.including.ensures

pub returns-else-is_diagonal : goal.returns-else-is_diagonal
returns-else-is_diagonal g c =
    straight_goings _ _ _ _ _ _ c.if-is_diagonal.ensures c.including-ahead.ensures c.including_side-left.ensures c.including_side.ensures
