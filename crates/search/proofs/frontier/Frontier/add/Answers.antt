use Rattle.std.proofs.Common.{List, arith, length-set, sym, subst, ◌∙◌, rules}
use Rattle.std.proofs.lemmas.List.{length-take-le}
use Rattle.waiting.specs.Held.{held}
use Rattle.search.specs.declared.entry.Entry.{Entry}
use Rattle.search.specs.Mark.{Waits, marks, Becomes}
use Rattle.search.proofs.Queues as queues
use Rattle.search.proofs.Moves as moves
use Rattle.search.proofs.frontier.Frontier.add.Goals as goal

pub put-requires-clause-room : goal.put-requires-clause-room
put-requires-clause-room g c =
    let f = c.args.self.now in
    let long = length-take-le f.places.now.len f.places.now.slots.now f.places.now.fits in
    let room = queues.room (g.R.Rate.order f.rate.now) f.entries.now (held f.places.now) c.requires.queued.queue c.args.place c.requires.within.0 c.requires.idle in
    let few = c.requires.queued.few in
    let roomy = c.requires.queued.roomy in
    (omega arith, omega arith)

pub put-requires-clause-heap : goal.put-requires-clause-heap
put-requires-clause-heap g c =
    let f = c.args.self.now in
    moves.beside (g.R.Rate.order f.rate.now) f.entries.now (held f.places.now) c.requires.queued.queue c.args.place c.requires.within.0 c.args.new c.waiting.result c.waiting.ensures c.requires.idle

pub put-requires-clause-new : goal.put-requires-clause-new
put-requires-clause-new g c =
    let f = c.args.self.now in
    let order = g.R.Rate.order f.rate.now in
    let es = f.entries.now in
    let qs = held f.places.now in
    let q = c.requires.queued.queue in
    rw c.of.ensures (
      moves.known order es qs q c.args.place c.requires.within.0 c.args.new c.waiting.result c.waiting.ensures,
      queues.away order es qs q c.args.place c.requires.idle,
    )

pub returns-clause-queued : goal.returns-clause-queued
returns-clause-queued g c =
    let f = c.args.self.now in
    let r = c.put.ensures in
    let f₂ = c.put.new.order in
    moves.queued g.R.Rate.order f _ _ f₂.entries.now (search rules) (r.same.size ∙ length-set f.entries.now c.args.place c.waiting.result) r.slots.room r.same.order c.requires.queued
    (moves.put_in (g.R.Rate.order f.rate.now) f.entries.now (held f.places.now) c.requires.queued.queue c.args.place c.requires.within.0 c.args.new c.waiting.result c.waiting.ensures c.requires.idle (g.R.Rate.order f₂.rate.now) f₂.entries.now (held c.put.new.self) r.same.marks r.same.size r.heap (rw c.of.ensures at r.entries))

pub returns-clause-new : goal.returns-clause-new
returns-clause-new g c =
    let f = c.args.self.now in
    subst (λ (es : List Entry). Becomes (marks f.entries.now) (marks es) c.args.place (Waits c.args.new)) (sym (search rules))
    (moves.becomes (g.R.Rate.order f.rate.now) f.entries.now (held f.places.now) c.requires.queued.queue c.args.place c.requires.within.0 c.args.new c.waiting.result c.waiting.ensures c.put.new.order.entries.now c.put.ensures.same.marks)
