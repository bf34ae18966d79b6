use Rattle.octets.proofs.Walking.{Walked}
use Rattle.octets.proofs.layout.ByteSourceGround.straight_jump.Given as goal

abbrev pub invariant-loop-steps : goal.invariant-loop-steps
invariant-loop-steps l = Walked l.self.size.rows l.self.size.cols l.self.bytes.now l.fn.cell l.fn.towards l.ahead l.steps l.at
