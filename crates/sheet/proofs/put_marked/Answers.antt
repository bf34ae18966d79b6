-- The chain gives the cells of the entries that have the mark, and each turn writes one of them.
use Rattle.std.proofs.Common.{◌∷◌, [], rules, tests}
use Rattle.std.proofs.lemmas.Iterator.{YieldsList-from_slice, YieldsList-from_map}
use Rattle.std.proofs.lemmas.Iterator.Consumers.{YieldsList-at, YieldsList-from_filter}
use Rattle.writing.proofs.Fronts.{all_left, first_fits, others_left, left_as, written}
use Rattle.sheet.specs.Meaning.{same_mark}
use Rattle.sheet.specs.Run.{cells_marked}
use Rattle.sheet.proofs.Splits.{took, none_left}
use Rattle.sheet.proofs.put_marked.Goals as goal

pub loop-cell-init : goal.loop-cell-init
loop-cell-init c = (
  cells_marked c.args.mark c.args.entries.now,
  YieldsList-at c.into_iter-cell-iterator.ensures.into_iter_gives
      (YieldsList-from_map _ (λ e. e.cell)
      (YieldsList-at c.map-cell-items.ensures.source
      (YieldsList-from_filter _ (λ e. same_mark e.mark c.args.mark) (YieldsList-at c.filter-marked.ensures.source (YieldsList-from_slice c.args.entries.now c.iter.ensures.rest)) c.filter-marked.ensures.closure (λ x r q k. search (rules, tests))))
      c.map-cell-items.ensures.closure (λ x r q k. search (rules, tests))),
  all_left _ _ c.requires,
)

pub put-requires : goal.put-requires
put-requires c =
    let one = took c.loop-cell.cell-iterator c.next.new.self c.in-Some.cell c.loop-cell.invariant.0 c.loop-cell.invariant.1 c.in-Some.ensures.steps in
    first_fits _ _ _ (c.in-Some.cell ∷ []) one.0 (left_as _ _ _ _ _ one.1 c.loop-cell.invariant.2)

pub loop-cell-preserved : goal.loop-cell-preserved
loop-cell-preserved c =
    let one = took c.loop-cell.cell-iterator c.next.new.self c.in-Some.cell c.loop-cell.invariant.0 c.loop-cell.invariant.1 c.in-Some.ensures.steps in
    (one.0, one.2, others_left _ _ _ (c.in-Some.cell ∷ []) one.0 _ (left_as _ _ _ _ _ one.1 c.loop-cell.invariant.2) c.put.ensures)

pub returns : goal.returns
returns c =
    let none = none_left c.loop-cell.cell-iterator c.next.new.self c.loop-cell.invariant.0 c.loop-cell.invariant.1 c.in-None.ensures.steps in
    written _ _ _ (left_as _ _ _ _ _ none c.loop-cell.invariant.2)
