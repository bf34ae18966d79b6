use Rattle.std.proofs.Common.{◌≡◌, ◌+◌, Bool, true, false, cond, [], set, refl, ◌∙◌, subst}
use Rattle.std.specs.Int.{from_bool}
use Rattle.floor.specs.Plane.{point}
use Rattle.table.specs.Equations.{Mends, all_seeds}
use Rattle.table.proofs.Marked.{remarked}
use Rattle.table.proofs.mending.Table.mark.Goals as goal

from_bool_is : (b : Bool) → from_bool b ≡ cond b 1 0
from_bool_is true = refl
from_bool_is false = refl

pub returns-then-self-place-clause-remarked : goal.returns-then-self-place-clause-remarked
returns-then-self-place-clause-remarked c =
    let t = c.args.self.now in
    remarked _ _ t.size.few t.numbers.now c.args.cell (record { in_rows = c.requires.within.0; in_cols = c.requires.within.1 }) t.fits c.args.open _ c.requires.defined
    (subst (λ l. Mends t.size.rows t.size.cols l (all_seeds (point c.args.cell)) c.mend.new.self.numbers.now []) (λ j. set t.numbers.now (c.requires.within.2 j + 8) ((c.from-number.ensures ∙ from_bool_is c.args.open) j)) c.mend.ensures.mends)
