-- The source means what it was drawn to, and a plan of the corridor's size drawn so is the corridor.
use Rattle.std.proofs.Common.{◌≡◌, true, sym, ◌∙◌, rules}
use Rattle.std.proofs.lemmas.Bool.{both_ways, cond-true}
use Rattle.floor.specs.Plans.{Plan}
use Rattle.worked.specs.Examples.{drawn}
use Rattle.worked.specs.Table.{corridor}
use Rattle.worked.specs.Corridor.{fits}
use Rattle.worked.proofs.Drawn.{redrawn_is, opened_inside}
use Rattle.worked.proofs.corridor.draw.Goals as goal

pub returns : goal.returns
returns g c =
    let p : Plan = g.S.JumpSource.meaning c.args.source.now in
    let q : Plan = g.S.JumpSource.meaning c.open_all.new.source in
    let fit : fits p ≡ true = search rules in
    let within = opened_inside p q fit c.open_all.ensures.plan in
    let there = redrawn_is p q (g.S.JumpSource.meaning c.mark.new.self) fit c.open_all.ensures.plan (c.mark.ensures.within within) (g.S.JumpSource.sized c.mark.new.self) in
    record {
      answer = c.mark.ensures.answer ∙ within ∙ sym fit;
      plan = there ∙ sym (cond-true (fits p) (drawn corridor) p fit);
      stays = λ other. absurd (both_ways (fits p) other fit);
      kept = g.S.JumpSource.goes _ _ _ c.open_all.ensures.kept c.mark.ensures.kept;
    }
