use Rattle.std.proofs.Common.{rules, ◌≡◌}
use Rattle.floor.specs.Plane.{point}
use Rattle.floor.proofs.Jumps.{diagonal_mark}
use Rattle.source.specs.Ground.{live_beside}
use Rattle.source.proofs.Walks.{beside_by}
use Rattle.source.proofs.ground.Ground.diagonal_jump.Goals as goal

pub returns : goal.returns
returns g c =
    let p = g.Self.Ground.plan c.args.self.now in
    let h = c.args.towards in
    c.jump_until.ensures (diagonal_mark p h)
    (λ a d b e q. let at : b ≡ live_beside p d h → diagonal_mark p h (point a) ≡ b = beside_by p a d h e b in search (rules, at, q))
