-- The legs so far are measured and added up, their amounts are written, and none of them is refused.
use Rattle.std.proofs.Common.{◌≡◌, List, take, None}
use Rattle.writing.specs.Fronts.{Added}
use Rattle.listing.specs.declared.lines.Amount.{Amount}
use Rattle.listing.specs.Lines.{first_refused, Measures, in_all}
use Rattle.listing.proofs.lines.measure.Given as goal

abbrev pub invariant-loop-i : goal.invariant-loop-i
invariant-loop-i l =
    (items : List Amount) × (first_refused l.side 1 (take l.i l.legs) ≡ None) × Measures l.side (take l.i l.legs) items × (l.total ≡ in_all items) × Added l.initial.amounts items l.amounts
