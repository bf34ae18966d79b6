-- Each turn puts one query more.
use Rattle.std.proofs.Common.{◌≡◌, ◌<◌, length, get_or, take, ◌∙◌, arith}
use mathlib.Core.Path.{transport}
use Rattle.std.proofs.lemmas.List.{drop-set-lt}
use Rattle.boundary.specs.declared.numbers.Query.{Query}
use Rattle.boundary.specs.Numbers.{action_in}
use Rattle.boundary.specs.Batches.{after_queries, RightBy}
use Rattle.boundary.proofs.Turns.{plan_more, right_more}
use Rattle.boundary.proofs.batches.reply_all.Goals as goal

pub loop-i-preserved : goal.loop-i-preserved
loop-i-preserved g c =
    let order = g.R.Rate.order c.args.planner.now.rate in
    let w = length c.args.work.now.entries.now in
    let v = length c.args.work.now.waiting.now in
    let p = g.S.JumpSource.meaning c.args.planner.now.source in
    let now = g.S.JumpSource.meaning c.loop-i.planner.source in
    let qs = c.args.queries.now in
    let i = c.loop-i.i in
    let x = c.reply_to.result in
    let q : Query = record { what = 0; row = 0; col = 0; target_row = 0; target_col = 0 } in
    let turn : i < length qs = c.loop-i-test.true in
    let room : i < length c.loop-i.replies = omega arith in
    let there : now ≡ after_queries p (take i qs) = c.loop-i.invariant.2 in
    let lists = c.reply_to.ensures.lists in
    let right : RightBy order w v (after_queries p (take i qs)) (get_or qs i q) (action_in (get_or qs i q)) x =
    transport (λ k. RightBy (g.R.Rate.order (c.loop-i.invariant.0 k)) (c.loop-i.invariant.1.0 k) (c.loop-i.invariant.1.1 k) (there k) (get_or qs i q) (action_in (get_or qs i q)) x) c.reply_to.ensures.right in (
      c.reply_to.ensures.rate ∙ c.loop-i.invariant.0,
      (lists.places ∙ c.loop-i.invariant.1.0, lists.room ∙ c.loop-i.invariant.1.1),
      plan_more p now (g.S.JumpSource.meaning c.reply_to.new.planner.source) qs i q turn there c.reply_to.ensures.plan,
      right_more order w v p qs c.loop-i.replies i x room c.loop-i.invariant.3 q turn right,
      drop-set-lt _ _ _ _ turn ∙ c.loop-i.invariant.4,
    )
