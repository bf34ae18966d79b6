use Rattle.std.proofs.Common.{not, ◌&&◌, refl, ap, ◌∙◌}
use Rattle.floor.specs.Plane.{point, turn, step}
use Rattle.floor.specs.Plans.{opens}
use Rattle.pruning.proofs.Going.{stop_here}
use Rattle.pruning.proofs.goings.StraightPlace.is_stop.Goals as goal

pub returns-then-is_open_on : goal.returns-then-is_open_on
returns-then-is_open_on g c =
    ap not c.is_open_on-then-is_open_on.ensures ∙
    ap (λ b. b && not (opens (g.S.JumpSource.meaning c.args.source.now) (step c.behind.result (point c.args.self.cell)))) c.if-is_open_on.ensures ∙
    stop_here _ _ _ _ c.args.self.straight _ _ c.aside.ensures c.behind.ensures

pub returns-else-is_open_on : goal.returns-else-is_open_on
returns-else-is_open_on g c =
    c.if-is_open_on.false ∙
    ap (λ b. b && not (opens (g.S.JumpSource.meaning c.args.source.now) (step (turn c.args.side (turn c.args.side (turn c.args.side c.args.self.arrival))) (point c.args.self.cell))))
    c.if-is_open_on.ensures ∙
    stop_here _ _ _ _ c.args.self.straight _ _ c.aside.ensures refl
