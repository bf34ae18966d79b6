use Rattle.std.proofs.Common.{length, refl, ap, inl, inr, arith}
use Rattle.std.proofs.lemmas.Bool.{cases_lt}
use Rattle.std.proofs.lemmas.List.{get_or_past}
use Rattle.search.specs.Mark.{blank, mark, marks}
use Rattle.search.proofs.clear.Goals as goal

pub returns : goal.returns
unfolding marks
returns c k = elim (cases_lt k (length c.args.entries.now)) [
  | inl low ↦ ap mark (c.fill.ensures.clones k blank low refl)
  | inr past ↦ ap mark (get_or_past c.fill.new.self k blank (let long = c.fill.ensures.len in omega arith))
]
