-- Row after row is closed; in the end nothing is open, since nothing outside ever was.
use Rattle.std.proofs.Common.{◌≡◌, ap, ◌∙◌, arith}
use Rattle.floor.specs.Plans.{Plan}
use Rattle.planner.specs.Shutting.{shut_row, shut_rows}
use Rattle.planner.proofs.Shut.{rows_none, rows_more, rows_all}
use Rattle.planner.proofs.marking.close_all.Goals as goal

pub loop-row-init : goal.loop-row-init
loop-row-init g c = (rows_none (g.S.JumpSource.meaning c.args.source.now), g.S.JumpSource.stays c.args.source.now)

pub loop-row-preserved : goal.loop-row-preserved
loop-row-preserved g c =
    let p : Plan = g.S.JumpSource.meaning c.args.source.now in
    let n = c.loop-row.row in
    let e = c.loop-row.invariant.0 in (
      c.close_row.ensures.plan ∙ ap (λ q. shut_row q n q.cols) e ∙ rows_more p (g.S.JumpSource.sized c.args.source.now) n,
      g.S.JumpSource.goes c.args.source.now c.loop-row.source c.close_row.new.source c.loop-row.invariant.1 c.close_row.ensures.kept,
    )

pub returns : goal.returns
returns g c =
    let p : Plan = g.S.JumpSource.meaning c.args.source.now in
    let e : g.S.JumpSource.meaning c.loop-row.source ≡ shut_rows p c.loop-row.row = c.loop-row.invariant.0 in
    let all : c.loop-row.row ≡ p.rows = omega (arith, c.size-row-end.ensures.0) in
    record {
      plan = e ∙ ap (shut_rows p) all ∙ rows_all p (g.S.JumpSource.sized c.args.source.now);
      kept = c.loop-row.invariant.1;
    }
