use Rattle.std.proofs.Common.{sym}
use Rattle.floor.proofs.Steps.{no_cell_open}
use Rattle.source.proofs.Walks.{is_legal, closed_there, corner_cut, no_end}
use Rattle.source.proofs.ground.Ground.step_from_free.Goals as goal
use Rattle.source.proofs.ground.Ground.step_from_free.Goals.{else-is_free-via-then-is_free+else-cuts_no_corner, else-is_free-via-else-is_free}

pub returns-in_err-next : goal.returns-in_err-next
returns-in_err-next g c =
    rw c.from_residual.ensures
    (no_end _ _ _ (no_cell_open _ (g.Self.Ground.small c.args.self.now) c.args.cell c.args.towards c.in_err-next.ensures))

pub returns-then-cuts_no_corner : goal.returns-then-cuts_no_corner
returns-then-cuts_no_corner g c =
    let p = g.Self.Ground.plan c.args.self.now in
    let end = c.in_ok-next.ensures in (
      is_legal p c.args.cell c.in_ok-next.next c.args.towards end (sym c.requires) c.if-is_free.ensures c.if-cuts_no_corner.ensures,
      end,
    )

pub returns-else-is_free : goal.returns-else-is_free
returns-else-is_free g c =
    let p = g.Self.Ground.plan c.args.self.now in
    let end = c.in_ok-next.ensures in
    elim c.else-is_free.branch [
      | else-is_free-via-then-is_free+else-cuts_no_corner w ↦ corner_cut p c.args.cell c.in_ok-next.next c.args.towards end w.if-cuts_no_corner.ensures
      | else-is_free-via-else-is_free w ↦ closed_there p c.args.cell c.in_ok-next.next c.args.towards end w.if-is_free.ensures
    ]
