use Rattle.std.proofs.Common.{true, false, refl, sym, arith}
use Rattle.source.proofs.Walks.{there_open, goes_on, fewer_left, ends_live, ends_dead, few_steps, from_closed}
use Rattle.source.proofs.ground.Ground.jump_until.Goals as goal

pub loop-next-init : goal.loop-next-init
loop-next-init g c = (λ mark t. (omega arith, refl), (omega arith, refl), sym c.if-not-is_free.ensures)

pub returns-then-not-is_free : goal.returns-then-not-is_free
returns-then-not-is_free g c = λ mark t. from_closed _ mark c.args.towards c.args.cell (sym c.if-not-is_free.ensures)

pub overflow_add-steps : goal.overflow_add-steps
overflow_add-steps g c = omega (arith, few_steps _ _ _ (g.Self.Ground.small c.args.self.now) _ _ _ c.loop-next.invariant.1)

pub returns-then-ends : goal.returns-then-ends
returns-then-ends g c =
    let step = c.in-Some.ensures in
    λ mark t. ends_live _ _ _ _ _ _ (c.loop-next.invariant.0 mark t) step.0 (t c.loop-next.at c.in-Some.next true step.1 c.if-ends.ensures)

pub loop-next-smaller : goal.loop-next-smaller
loop-next-smaller g c = fewer_left _ (λ x. false) _ _ _ c.in-Some.ensures.0 refl c.in-Some.ensures.1

pub loop-next-preserved : goal.loop-next-preserved
loop-next-preserved g c =
    let step = c.in-Some.ensures in (
      λ mark t. goes_on _ _ _ _ _ _ _ (c.loop-next.invariant.0 mark t) step.0 (t c.loop-next.at c.in-Some.next false step.1 c.if-ends.ensures) step.1,
      goes_on _ _ _ _ _ _ _ c.loop-next.invariant.1 step.0 refl step.1,
      there_open _ _ _ _ step.1 step.0,
    )

pub returns : goal.returns
returns g c = λ mark t. ends_dead _ _ _ _ _ _ (c.loop-next.invariant.0 mark t) c.in_default.ensures
