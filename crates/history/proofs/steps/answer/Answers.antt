-- A loop's legs stand at the front of the leg list, as many as its answer says.
use Rattle.std.proofs.Common.{sym, ap, subst, rules}
use Rattle.history.specs.Records.{asked}
use Rattle.history.specs.declared.calls.Answer.TheVariants as answer
use Rattle.history.specs.Lists.{lists, ends_of, Put}
use Rattle.history.proofs.Putting.{put_of, loop_put}
use Rattle.history.proofs.steps.answer.Goals as goal

pub returns-in-Loop-clause-put : goal.returns-in-Loop-clause-put
returns-in-Loop-clause-put g c =
    let order = g.R.Rate.order c.args.planner.now.rate in
    let p = g.S.JumpSource.meaning c.args.planner.now.source in
    let r = c.tour-answer.result in
    let old = lists c.args.entries.now c.args.waiting.now c.args.corners.now c.args.legs.now in
    let new = lists c.tour-answer.new.work.entries.now c.tour-answer.new.work.waiting.now c.args.corners.now c.tour-answer.new.legs in
    let made : Put order p c.args.asks.now (answer.Loop r c.legs_measured.result) old new = subst (λ n. Put order p c.args.asks.now (answer.Loop r n) old new) (sym c.legs_measured.ensures)
    (loop_put order p c.args.asks.now c.in-Loop.cells.now _ c.tour-answer.new.work c.args.corners.now c.args.legs.now c.tour-answer.new.legs r
    (λ l. ap (λ a. asked a l) c.in-Loop.is) (ap ends_of c.in-Loop.is) c.tour-answer.ensures.told c.tour-answer.ensures.rest c.tour-answer.ensures.same c.tour-answer.auto.legs) in
    put_of order p c.args.asks.now (answer.Loop r c.legs_measured.result) old _ _ _ _ c.args.corners.now c.tour-answer.new.legs made (search rules) (search rules)
