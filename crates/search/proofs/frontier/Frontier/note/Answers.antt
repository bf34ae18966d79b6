use Rattle.std.proofs.Common.{◌≡◌, get_or, true, sym, refl, ap, ◌∙◌, subst, rules, arith}
use Rattle.rate.specs.declared.Comparison.TheVariants.{Cheaper}
use Rattle.rate.specs.Laws.{at_least}
use Rattle.search.specs.declared.entry.Reached.{Reached}
use Rattle.search.specs.Mark.{Unmet, Waits, marked, way, blank, marks, key, is_waiting}
use Rattle.search.specs.Search.{NoDearer, wrote, no_gain, settled}
use Rattle.search.proofs.Marks as written
use Rattle.search.proofs.Queues as queues
use Rattle.search.proofs.frontier.Frontier.note.Goals as goal

pub add-requires-clause-idle : goal.add-requires-clause-idle
unfolding marks
add-requires-clause-idle g c =
    let e = get_or c.args.self.now.entries.now c.args.place blank in
    ap (λ t. is_waiting (marked t (way e))) c.in-Unseen.is

pub returns-in-Unseen-clause-noted : goal.returns-in-Unseen-clause-noted
unfolding marks
returns-in-Unseen-clause-noted g c =
    let es = c.args.self.now.entries.now in
    let was : marks es c.args.place ≡ Unmet = ap (λ t. marked t (way (get_or es c.args.place blank))) c.in-Unseen.is in
    wrote (λ b h. written.not_done _ b was h) (λ b h. absurd (written.not_waits _ b was h)) c.add.ensures.new

pub improve-requires-clause-waits : goal.improve-requires-clause-waits
unfolding marks
improve-requires-clause-waits g c =
    let e = get_or c.args.self.now.entries.now c.args.place blank in
    ap (λ t. is_waiting (marked t (way e))) c.in-Waiting.is

pub improve-requires-clause-better : goal.improve-requires-clause-better
unfolding marks
improve-requires-clause-better g c =
    let f = c.args.self.now in
    let order = g.R.Rate.order f.rate.now in
    let e = get_or f.entries.now c.args.place blank in
    let cheaper : c.compare.result ≡ Cheaper = search rules in
    let test = ap (λ (r : Reached). order c.args.new.counts r.counts) (sym c.reached.ensures) ∙ sym c.compare.ensures ∙ cheaper in
    subst (NoDearer order c.args.new.counts) (sym (ap (λ t. key (marked t (way e))) c.in-Waiting.is)) (queues.gains order (g.R.Rate.lawful f.rate.now) c.args.new.counts (way e).counts test)

pub returns-then-eq-clause-noted : goal.returns-then-eq-clause-noted
unfolding marks
returns-then-eq-clause-noted g c =
    let f = c.args.self.now in
    let order = g.R.Rate.order f.rate.now in
    let e = get_or f.entries.now c.args.place blank in
    let was : marks f.entries.now c.args.place ≡ Waits (way e) = ap (λ t. marked t (way e)) c.in-Waiting.is in
    let cheaper : c.compare.result ≡ Cheaper = search rules in
    let test = ap (λ (r : Reached). order c.args.new.counts r.counts) (sym c.reached.ensures) ∙ sym c.compare.ensures ∙ cheaper in
    let better = queues.gains order (g.R.Rate.lawful f.rate.now) c.args.new.counts (way e).counts test in
    wrote (λ b h. written.never_both _ _ b was h) (λ b h. subst (λ (r : Reached). NoDearer order c.args.new.counts r.counts) (written.same_waits _ (way e) b was h) better) c.improve.ensures.new

pub returns-else-eq-clause-noted : goal.returns-else-eq-clause-noted
unfolding marks
returns-else-eq-clause-noted g c =
    let f = c.args.self.now in
    let e = get_or f.entries.now c.args.place blank in
    let dear : at_least c.compare.result ≡ true = grind (arith, rules) in
    no_gain refl (way e) (ap (λ t. marked t (way e)) c.in-Waiting.is) (ap (λ (r : Reached). at_least (g.R.Rate.order f.rate.now c.args.new.counts r.counts)) (sym c.reached.ensures) ∙ ap at_least (sym c.compare.ensures) ∙ dear)

pub returns-in-Finished-clause-noted : goal.returns-in-Finished-clause-noted
unfolding marks
returns-in-Finished-clause-noted g c =
    let e = get_or c.args.self.now.entries.now c.args.place blank in
    settled refl (way e) (ap (λ t. marked t (way e)) c.in-Finished.is)
