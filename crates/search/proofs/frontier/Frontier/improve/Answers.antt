use Rattle.std.proofs.Common.{List, length-set, sym, subst, ◌∙◌, rules}
use Rattle.waiting.specs.Held.{held}
use Rattle.search.specs.declared.entry.Entry.{Entry}
use Rattle.search.specs.Mark.{Waits, marks, slots, Becomes}
use Rattle.search.proofs.Moves as moves
use Rattle.search.proofs.frontier.Frontier.improve.Goals as goal

pub raise-requires-clause-known : goal.raise-requires-clause-known
raise-requires-clause-known g c =
    let f = c.args.self.now in
    rw c.of.ensures (moves.known (g.R.Rate.order f.rate.now) f.entries.now (held f.places.now) c.requires.queued.queue c.args.place c.requires.within.0 c.args.new c.waiting.result c.waiting.ensures)

pub raise-requires-clause-carried : goal.raise-requires-clause-carried
unfolding slots
raise-requires-clause-carried g c =
    let f = c.args.self.now in
    rw c.of.ensures (moves.carried (g.R.Rate.order f.rate.now) f.entries.now (held f.places.now) c.requires.queued.queue c.args.place c.requires.within.0 c.args.new c.waiting.result c.waiting.ensures c.requires.waits (g.R.Rate.lawful f.rate.now) c.requires.better)

pub returns-clause-queued : goal.returns-clause-queued
unfolding slots
returns-clause-queued g c =
    let f = c.args.self.now in
    let r = c.raise.ensures in
    let f₂ = c.raise.new.order in
    moves.queued g.R.Rate.order f _ _ f₂.entries.now (search rules) (r.same.size ∙ length-set f.entries.now c.args.place c.waiting.result) r.slots.room r.same.order c.requires.queued
    (moves.moved_up (g.R.Rate.order f.rate.now) f.entries.now (held f.places.now) c.requires.queued.queue c.args.place c.requires.within.0 c.args.new c.waiting.result c.waiting.ensures c.requires.waits (g.R.Rate.order f₂.rate.now) f₂.entries.now (held c.raise.new.self) r.same.marks r.same.size r.heap (rw c.of.ensures at r.entries))

pub returns-clause-new : goal.returns-clause-new
returns-clause-new g c =
    let f = c.args.self.now in
    subst (λ (es : List Entry). Becomes (marks f.entries.now) (marks es) c.args.place (Waits c.args.new)) (sym (search rules))
    (moves.becomes (g.R.Rate.order f.rate.now) f.entries.now (held f.places.now) c.requires.queued.queue c.args.place c.requires.within.0 c.args.new c.waiting.result c.waiting.ensures c.raise.new.order.entries.now c.raise.ensures.same.marks)
