-- The source is new, so its floor is that of the entries alone.
use Rattle.std.proofs.Common.{refl, ap, ◌∙◌}
use Rattle.floor.specs.Plans.{Plan, closed}
use Rattle.source.specs.Drawing.{opened}
use Rattle.quoting.specs.Floors.{cells_of}
use Rattle.quoting.proofs.Floors.{floor_opened}
use Rattle.quoting.proofs.Answered.{same_tour, legs_fit}
use Rattle.quoting.proofs.loops.tour.Goals as goal

pub returns : goal.returns
returns c =
    let es = c.args.entries.now in
    let new = c.make-source.ensures.plan in
    let told = same_tour _ _ _ _ _ _ _ _ _ _ refl (ap (λ (p : Plan). opened (closed p.rows p.cols) (cells_of es)) new.plan ∙ floor_opened es c.requires) c.tour_on.ensures in
    record { told = told; few = legs_fit _ _ _ _ _ _ _ told }
