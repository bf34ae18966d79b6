use Rattle.std.proofs.Common.{◌<◌, length, sym, ◌∙◌, subst}
use Rattle.std.proofs.lemmas.Bool.{or_left, or_right, or_from}
use Rattle.floor.specs.declared.Side.TheVariants.{Left, Right}
use Rattle.source.proofs.Walks.{closed_jump}
use Rattle.octets.proofs.Walking.{starts, comes_to_edge, leads_on, blocked, leads_aside, stops, goes}
use Rattle.octets.proofs.layout.ByteSourceGround.straight_jump.Goals as goal
use Rattle.octets.proofs.layout.ByteSourceGround.straight_jump.Goals.{then-opens_beside-via-then-opens_beside, then-opens_beside-via-else-opens_beside+then-opens_beside-2}

pub returns-then-not-is_free : goal.returns-then-not-is_free
returns-then-not-is_free c = closed_jump _ c.args.towards c.args.cell (sym c.is_free.ensures ∙ c.if-not-is_free.true)

pub loop-steps-init : goal.loop-steps-init
loop-steps-init c =
    let self = c.args.self.now in
    starts _ _ self.size.few _ self.fits c.requires (sym c.is_free.ensures ∙ c.if-not-is_free.false) c.of-ahead.ensures

pub moved-next-requires : goal.moved-next-requires
moved-next-requires c =
    let self = c.args.self.now in
    (leads_on _ _ self.size.few _ self.fits c.requires c.loop-steps.invariant c.loop-steps-test.true).0

pub is_free_at-requires : goal.is_free_at-requires
is_free_at-requires c =
    let self = c.args.self.now in
    subst (λ i. i < length self.bytes.now) (sym c.moved-next.ensures) (leads_on _ _ self.size.few _ self.fits c.requires c.loop-steps.invariant c.loop-steps-test.true).1

pub returns-then-not-is_free_at : goal.returns-then-not-is_free_at
returns-then-not-is_free_at c =
    let self = c.args.self.now in
    blocked _ _ self.size.few _ self.fits c.requires c.loop-steps.invariant c.loop-steps-test.true c.moved-next.ensures (sym c.is_free_at.ensures ∙ c.if-not-is_free_at.true)

pub opens_beside-requires : goal.opens_beside-requires
opens_beside-requires c =
    let self = c.args.self.now in
    leads_aside _ _ self.size.few _ self.fits c.requires c.loop-steps.invariant c.loop-steps-test.true c.moved-next.ensures Left c.beside-left.ensures

pub opens_beside-requires-else-opens_beside : goal.opens_beside-requires-else-opens_beside
opens_beside-requires-else-opens_beside c =
    let self = c.args.self.now in
    leads_aside _ _ self.size.few _ self.fits c.requires c.loop-steps.invariant c.loop-steps-test.true c.moved-next.ensures Right c.beside-right.ensures

pub returns-then-opens_beside : goal.returns-then-opens_beside
returns-then-opens_beside c =
    let self = c.args.self.now in
    stops _ _ self.size.few _ self.fits c.requires c.loop-steps.invariant c.loop-steps-test.true c.moved-next.ensures
    (sym c.is_free_at.ensures ∙ c.if-not-is_free_at.false) c.beside-left.ensures c.beside-right.ensures
    (elim c.then-opens_beside.branch [
      | then-opens_beside-via-then-opens_beside w ↦ or_left _ _ (sym c.opens_beside.ensures ∙ w.if-opens_beside.true)
      | then-opens_beside-via-else-opens_beside+then-opens_beside-2 w ↦ or_right _ _ (sym w.opens_beside-else-opens_beside.ensures ∙ w.if-opens_beside-2.true)
    ])

pub loop-steps-preserved : goal.loop-steps-preserved
loop-steps-preserved c =
    let self = c.args.self.now in
    goes _ _ self.size.few _ self.fits c.requires c.loop-steps.invariant c.loop-steps-test.true c.moved-next.ensures
    (sym c.is_free_at.ensures ∙ c.if-not-is_free_at.false) c.beside-left.ensures c.beside-right.ensures
    (or_from _ _ (sym c.opens_beside.ensures ∙ c.if-opens_beside.false) (sym c.opens_beside-else-opens_beside.ensures ∙ c.if-opens_beside-2.false))

pub returns : goal.returns
returns c =
    let self = c.args.self.now in
    comes_to_edge _ _ self.size.few _ self.fits c.requires c.loop-steps.invariant c.loop-steps-test.false
