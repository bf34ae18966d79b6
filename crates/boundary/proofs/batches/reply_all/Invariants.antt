use Rattle.std.proofs.Common.{◌≡◌, length, take, drop}
use Rattle.boundary.specs.Batches.{after_queries, RightUpTo}
use Rattle.boundary.proofs.batches.reply_all.Given as goal

abbrev pub invariant-loop-i : goal.invariant-loop-i
invariant-loop-i g l =
    (l.planner.rate ≡ l.initial.planner.rate) ×
    ((length l.work.entries.now ≡ length l.initial.work.entries.now) × (length l.work.waiting.now ≡ length l.initial.work.waiting.now)) ×
    (g.S.JumpSource.meaning l.planner.source ≡ after_queries (g.S.JumpSource.meaning l.initial.planner.source) (take l.i l.queries)) ×
    RightUpTo
    (g.R.Rate.order l.initial.planner.rate)
    (length l.initial.work.entries.now)
    (length l.initial.work.waiting.now)
    (g.S.JumpSource.meaning l.initial.planner.source)
    l.queries
    l.replies
    l.i ×
    (drop (length l.queries) l.replies ≡ drop (length l.queries) l.initial.replies)
