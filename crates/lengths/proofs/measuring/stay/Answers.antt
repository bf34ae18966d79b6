-- The entries of all places are a front of the list, and what lies past them is not lent.
use Rattle.std.proofs.Common.{◌≡◌, List, length, drop, sym, subst, rules}
use Rattle.std.proofs.lemmas.List.{take_at}
use Rattle.search.specs.declared.entry.Entry.{Entry}
use Rattle.search.specs.Mark.{marks, Unmet}
use Rattle.lengths.specs.Questions.{places}
use Rattle.lengths.proofs.measuring.stay.Goals as goal

pub returns-clause-cleared : goal.returns-clause-cleared
returns-clause-cleared g c k =
    let p = g.S.JumpSource.meaning c.args.source.now in
    let es = c.clear.new.entries in
    let tail = drop c.places.result c.args.entries.now in
    let many : length es ≡ places p = search rules in
    subst (λ (x : List Entry). marks x k ≡ Unmet) (sym (take_at es tail (places p) many)) (c.clear.ensures k)
