-- A fresh planner has no cell open, and then those of the entries.
use Rattle.std.proofs.Common.{ap, ◌∙◌}
use Rattle.floor.specs.Plans.{Plan}
use Rattle.source.specs.Drawing.{opened}
use Rattle.quoting.specs.Floors.{cells_of}
use Rattle.quoting.proofs.Answered.{same_tour}
use Rattle.quoting.proofs.loops.tour_on.Goals as goal

pub returns : goal.returns
returns g c =
    same_tour _ _ _ _ _ _ _ _ _ _
    (ap (λ rate. g.R.Rate.order rate.now) (c.open_cells.ensures.rate ∙ c.new-planner.ensures.rate))
    (c.open_cells.ensures.plan ∙ ap (λ (p : Plan). opened p (cells_of c.args.entries.now)) c.new-planner.ensures.plan)
    c.tour.ensures.told
