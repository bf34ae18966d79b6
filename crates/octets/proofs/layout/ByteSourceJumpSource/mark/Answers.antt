use Rattle.std.proofs.Common.{◌≡◌, sym, refl, ap, ◌∙◌}
use Rattle.std.proofs.lemmas.Bool.{both_ways}
use Rattle.octets.specs.Layout.{written}
use Rattle.source.proofs.Indices.{placed}
use Rattle.octets.proofs.Cells.{mark_by}
use Rattle.octets.proofs.layout.ByteSourceJumpSource.mark.Goals as goal
use Rattle.octets.proofs.layout.ByteSourceJumpSource.mark.Goals.{then-open, else-open}

pub returns : goal.returns
returns c =
    let at = c.in-Some.ensures.at in
    let value : c.if-open.self ≡ written c.args.open =
    elim c.if-open.branch [ then-open w ↦ w.self-is ∙ ap written (sym w.if-open.true) | else-open w ↦ w.self-is ∙ ap written (sym w.if-open.false) ] in
    let marks = mark_by _ _ c.args.self.now.bytes.now c.args.cell c.args.open _ _ at value c.args.self.now.fits in
    let is_inside = (placed _ _ c.args.cell _ at).is_inside in
    record { answer = sym is_inside; within = λ e. marks.0; outside = λ e. absurd (both_ways _ e is_inside); intact = λ e. absurd (both_ways _ e is_inside); kept = (refl, refl, marks.1) }
