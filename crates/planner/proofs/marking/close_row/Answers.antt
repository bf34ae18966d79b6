-- A cell below the columns of the plan is inside, so marking it closes it.
use Rattle.std.proofs.Common.{◌≡◌, true, false, ap, ◌∙◌, arith}
use Rattle.std.proofs.lemmas.Bool.{and_from, lt-ltb}
use Rattle.floor.specs.declared.Cell.{Cell}
use Rattle.floor.specs.Plans.{Plan, inside, marked}
use Rattle.planner.proofs.Shut.{row_none, row_more}
use Rattle.planner.proofs.marking.close_row.Goals as goal

pub loop-col-init : goal.loop-col-init
loop-col-init g c = (row_none (g.S.JumpSource.meaning c.args.source.now) c.args.row, g.S.JumpSource.stays c.args.source.now)

pub loop-col-preserved : goal.loop-col-preserved
loop-col-preserved g c =
    let p : Plan = g.S.JumpSource.meaning c.args.source.now in
    let x : Cell = record { row = c.args.row; col = c.loop-col.col } in
    let e = c.loop-col.invariant.0 in
    let in_rows = c.requires in
    let within : inside (g.S.JumpSource.meaning c.loop-col.source) x ≡ true =
    ap (λ q. inside q x) e ∙ and_from _ _ (lt-ltb x.row p.rows (omega arith)) (lt-ltb x.col p.cols (omega (arith, c.size-col-end.ensures.1))) in (
      c.mark.ensures.within within ∙ ap (λ q. marked q x false) e ∙ row_more p c.args.row c.loop-col.col,
      g.S.JumpSource.goes c.args.source.now c.loop-col.source c.mark.new.self c.loop-col.invariant.1 c.mark.ensures.kept,
    )
