-- Each turn opens one cell more.
use Rattle.std.proofs.Common.{List, get_or, sym, ap, ◌∙◌}
use Rattle.std.proofs.lemmas.List.{take_all}
use Rattle.floor.specs.Plans.{Plan}
use Rattle.source.specs.Drawing.{open_one, opened}
use Rattle.sheet.specs.declared.Entry.{Entry}
use Rattle.quoting.specs.Floors.{cells_of}
use Rattle.quoting.proofs.Floors.{opened_more}
use Rattle.quoting.proofs.loops.open_cells.Goals as goal

pub loop-entry-preserved : goal.loop-entry-preserved
loop-entry-preserved g c =
    let p : Plan = g.S.JumpSource.meaning c.args.planner.now.source in
    let x = (get_or c.args.entries.now c.loop-entry.entry-index _).cell in (
      c.open.ensures.plan ∙ ap (λ (q : Plan). open_one q x) c.loop-entry.invariant.0 ∙ sym (opened_more p c.args.entries.now c.loop-entry.entry-index _ c.loop-entry-test.true),
      c.open.ensures.rate ∙ c.loop-entry.invariant.1,
    )

pub returns : goal.returns
returns g c =
    let p : Plan = g.S.JumpSource.meaning c.args.planner.now.source in
    record {
      plan = c.loop-entry.invariant.0 ∙ ap (λ (es : List Entry). opened p (cells_of es)) (take_all _ _ c.loop-entry-test.false);
      rate = c.loop-entry.invariant.1;
    }
