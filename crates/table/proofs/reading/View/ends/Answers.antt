use Rattle.std.proofs.Common.{◌||◌, sym, refl, ap, ◌∙◌}
use Rattle.std.proofs.lemmas.Bool.{or_left}
use Rattle.source.proofs.Walks.{stops_by}
use Rattle.table.proofs.Ends.{straight_end, slanted_end}
use Rattle.floor.specs.declared.Side.TheVariants.{Right}
use Rattle.floor.specs.Plane.{turn}
use Rattle.table.proofs.reading.View.ends.Goals as goal

pub returns-then-is_live : goal.returns-then-is_live
returns-then-is_live c =
    c.if-is_live.true ∙ sym (or_left _ _ c.if-is_live.true) ∙
    slanted_end _ _ _ _ (sym c.if-is_diagonal.ensures) _ c.requires _ (turn Right c.args.towards) c.turn.ensures refl _ _ c.is_live.ensures refl

pub returns-else-is_live : goal.returns-else-is_live
returns-else-is_live c =
    sym (ap (λ l. l || c.is_live-else-is_live.result) c.if-is_live.false) ∙
    slanted_end _ _ _ _ (sym c.if-is_diagonal.ensures) _ c.requires _ _ c.turn.ensures c.turn-else-is_live.ensures _ _ c.is_live.ensures c.is_live-else-is_live.ensures

pub returns-else-is_diagonal : goal.returns-else-is_diagonal
returns-else-is_diagonal c = straight_end _ _ _ _ (sym c.if-is_diagonal.ensures) _ (stops_by _ _ _ _ c.requires _ c.makes_stop.ensures)
