use Rattle.std.proofs.Common.{sym, subst, []}
use Rattle.table.specs.Tables.{MendsOn}
use Rattle.table.proofs.Walks.{both, slanted_seeds, straight_seeds}
use Rattle.table.proofs.mending.Table.mend_heading.Goals as goal

pub returns-then-not-is_diagonal : goal.returns-then-not-is_diagonal
returns-then-not-is_diagonal c =
    subst (λ ss. MendsOn c.args.self.now ss c.mend_around-then-not-is_diagonal.new.self [])
    (straight_seeds _ _ _ _ _ c.opposite-back.ensures c.turn-left.ensures c.turn-right.ensures (sym c.if-not-is_diagonal.ensures) _ _ c.turn.ensures c.turn-then-not-is_diagonal.ensures)
    (both (both c.mend_from.ensures c.mend_around.ensures) c.mend_around-then-not-is_diagonal.ensures)

pub returns-else-not-is_diagonal : goal.returns-else-not-is_diagonal
returns-else-not-is_diagonal c =
    subst (λ ss. MendsOn c.args.self.now ss c.mend_around.new.self [])
    (slanted_seeds _ _ _ _ _ c.opposite-back.ensures c.turn-left.ensures c.turn-right.ensures (sym c.if-not-is_diagonal.ensures))
    (both c.mend_from.ensures c.mend_around.ensures)
