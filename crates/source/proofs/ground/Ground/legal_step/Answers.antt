use Rattle.std.proofs.Common.{sym}
use Rattle.floor.specs.Plane.{point}
use Rattle.floor.specs.Plans.{opens}
use Rattle.floor.proofs.Jumps.{closed_stays}
use Rattle.source.proofs.ground.Ground.legal_step.Goals as goal

pub returns-else-is_free : goal.returns-else-is_free
returns-else-is_free g c = closed_stays (opens (g.Self.Ground.plan c.args.self.now)) (point c.args.cell) c.args.towards (sym c.if-is_free.ensures)
