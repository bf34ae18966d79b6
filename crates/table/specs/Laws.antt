-- What the trait for sources asks of the layout: that what marks leave past the plan adds up.
use Rattle.std.specs.Prelude.{◌≡◌, ℕ, List, drop}
use Rattle.std.proofs.Common.{◌∙◌}
use Rattle.source.specs.declared.extents.Size.{Size}
use Rattle.table.specs.Layout.{needed}

-- what is past the plan after marks, and after more at the same size, is what was there before
pub kept_on : (s t : Size) (a b c : List ℕ) → s ≡ t → drop (needed s.rows s.cols) b ≡ drop (needed s.rows s.cols) a → drop (needed t.rows t.cols) c ≡ drop (needed t.rows t.cols) b →
    drop (needed s.rows s.cols) c ≡ drop (needed s.rows s.cols) a
kept_on s t a b c e p q =
    let r : drop (needed s.rows s.cols) c ≡ drop (needed s.rows s.cols) b = rw e q in
    r ∙ p
