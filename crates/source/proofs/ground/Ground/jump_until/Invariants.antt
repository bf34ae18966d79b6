use Rattle.std.proofs.Common.{◌≡◌, true, false}
use Rattle.floor.specs.Plane.{point}
use Rattle.floor.specs.Plans.{is_open}
use Rattle.source.specs.Ground.{scanned, Tells}
use Rattle.source.proofs.Walks.{Along}
use Rattle.source.proofs.ground.Ground.jump_until.Given as goal

-- what is left of the jump is the jump from here, with the marks that the question tells, and with none; and here the floor is open
abbrev pub invariant-loop-next : goal.invariant-loop-next
invariant-loop-next g l =
    let p = g.Self.Ground.plan l.self in
    ((mark : _) → Tells (λ c d b. g.F.Fn.post l.ends (c, (d, tt)) b) l.towards mark → Along p mark l.towards l.initial.at l.steps l.at) ×
    Along p (λ x. false) l.towards l.initial.at l.steps l.at ×
    (is_open p l.at ≡ true)

-- the legal steps left
abbrev pub decreases-loop-next : goal.decreases-loop-next
decreases-loop-next g l = (scanned (g.Self.Ground.plan l.self) (λ x. false) l.towards (point l.at)).0
