use Rattle.std.proofs.Common.{rules, ◌≡◌}
use Rattle.floor.specs.Plane.{point}
use Rattle.floor.proofs.Jumps.{straight_mark}
use Rattle.source.specs.Ground.{stops_at}
use Rattle.source.proofs.Walks.{stops_by}
use Rattle.source.proofs.ground.Ground.straight_jump.Goals as goal

pub returns : goal.returns
returns g c =
    let p = g.Self.Ground.plan c.args.self.now in
    let h = c.args.towards in
    c.jump_until.ensures (straight_mark p h)
    (λ a d b e q. let at : b ≡ stops_at p a d h → straight_mark p h (point a) ≡ b = stops_by p a d h e b in search (rules, at, q))
