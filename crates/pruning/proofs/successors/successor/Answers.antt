use Rattle.std.proofs.Common.{sym, ◌∙◌, subst}
use Rattle.pruning.specs.Successors.{Leads, Lands}
use Rattle.pruning.proofs.Answering.{led, held, lands}
use Rattle.pruning.proofs.successors.successor.Goals as goal

pub returns-in_err-steps : goal.returns-in_err-steps
returns-in_err-steps g c = record {
  exact =
      subst (Leads _ c.args.cell c.args.heading c.args.target) (sym c.from_residual.ensures)
      (led _ _ _ _ _ _ _ _ _ c.from.ensures c.jump-steps.ensures c.from-2.ensures c.sighting.ensures c.far.ensures ∙ c.in_err-steps.was);
  lands = subst (Lands (g.S.JumpSource.meaning c.args.source.now)) (sym c.from_residual.ensures) tt;
}

pub walked-requires : goal.walked-requires
walked-requires g c =
    held _ (g.S.JumpSource.sized c.args.source.now) _ _ _ _
    (led _ _ _ _ _ _ _ _ _ c.from.ensures c.jump-steps.ensures c.from-2.ensures c.sighting.ensures c.far.ensures ∙ c.in_ok-steps.was)

pub returns : goal.returns
returns g c =
    let e = led _ _ _ _ _ _ _ _ _ c.from.ensures c.jump-steps.ensures c.from-2.ensures c.sighting.ensures c.far.ensures ∙ c.in_ok-steps.was in
    record {
      exact = (c.in_ok-steps.steps, e, c.walked.ensures, c.counted.ensures);
      lands = lands _ (g.S.JumpSource.sized c.args.source.now) _ _ _ _ _ e c.walked.ensures c.counted.ensures;
    }
