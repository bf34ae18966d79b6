use Rattle.std.proofs.Common.{◌<◌, List, length, length-set, sym, subst, ◌∙◌, rules}
use Rattle.waiting.specs.Held.{held}
use Rattle.search.specs.declared.entry.Entry.{Entry}
use Rattle.search.specs.Mark.{Done, how, marks, Becomes}
use Rattle.search.proofs.Moves as moves
use Rattle.search.proofs.frontier.Frontier.finish_first.Goals as goal

pub bounds-self-first : goal.bounds-self-first
bounds-self-first g c =
    let f = c.args.self.now in
    let f₂ = c.take_first.new.order in
    let a = c.in_ok-first.first in
    let r = c.in_ok-first.ensures in
    subst (λ (es : List Entry). a.place < length es) (sym (search rules))
    (moves.inside (g.R.Rate.order f.rate.now) f.entries.now (held f.places.now) c.requires.queued.queue (g.R.Rate.lawful f.rate.now) (g.R.Rate.order f₂.rate.now) f₂.entries.now (held c.take_first.new.self) a r.same.marks r.same.size r.first r.heap r.entries)

pub returns-clause-first : goal.returns-clause-first
returns-clause-first g c =
    let f = c.args.self.now in
    let f₂ = c.take_first.new.order in
    let r = c.in_ok-first.ensures in
    moves.first (g.R.Rate.order f.rate.now) f.entries.now (held f.places.now) c.requires.queued.queue (g.R.Rate.lawful f.rate.now) (g.R.Rate.order f₂.rate.now) f₂.entries.now (held c.take_first.new.self) c.in_ok-first.first r.same.marks r.same.size r.first r.heap r.entries

pub returns-clause-new : goal.returns-clause-new
returns-clause-new g c =
    let f = c.args.self.now in
    let f₂ = c.take_first.new.order in
    let a = c.in_ok-first.first in
    let r = c.in_ok-first.ensures in
    subst (λ (es : List Entry). Becomes (marks f.entries.now) (marks (moves.finish es a.place)) a.place (Done (how (marks f.entries.now a.place)))) (sym (search rules))
    (moves.done (g.R.Rate.order f.rate.now) f.entries.now (held f.places.now) c.requires.queued.queue (g.R.Rate.lawful f.rate.now) (g.R.Rate.order f₂.rate.now) f₂.entries.now (held c.take_first.new.self) a r.same.marks r.same.size r.first r.heap r.entries)

pub returns-clause-queued : goal.returns-clause-queued
returns-clause-queued g c =
    let f = c.args.self.now in
    let f₂ = c.take_first.new.order in
    let a = c.in_ok-first.first in
    let r = c.in_ok-first.ensures in
    moves.queued g.R.Rate.order f _ _ (moves.finish f₂.entries.now a.place) (search rules) (length-set f₂.entries.now a.place _ ∙ r.same.size) r.slots.room r.same.order c.requires.queued
    (moves.taken (g.R.Rate.order f.rate.now) f.entries.now (held f.places.now) c.requires.queued.queue (g.R.Rate.lawful f.rate.now) (g.R.Rate.order f₂.rate.now) f₂.entries.now (held c.take_first.new.self) a r.same.marks r.same.size r.first r.heap r.entries r.apart)
