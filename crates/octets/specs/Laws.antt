-- What the trait for sources asks of the layout: that what marking leaves adds up.
use Rattle.std.specs.Prelude.{◌≡◌, ℕ, List, refl}
use Rattle.std.proofs.Common.{◌∙◌}
use Rattle.source.specs.declared.extents.Size.{Size}
use Rattle.octets.specs.Layout.{Kept}

-- memory left as it was is as marking may leave it
pub kept_same : (rows cols : ℕ) (bytes : List ℕ) → Kept rows cols bytes bytes
kept_same rows cols bytes = record { rest = refl; plain = λ k b e. e }

-- what marking leaves twice over, at one size, it may leave at once
pub kept_on : (s t : Size) (a b c : List ℕ) → s ≡ t → Kept s.rows s.cols a b → Kept t.rows t.cols b c → Kept s.rows s.cols a c
kept_on s t a b c e p q =
    let r : Kept s.rows s.cols b c = rw e q in
    record { rest = r.rest ∙ p.rest; plain = λ k l m. r.plain k l (p.plain k l m) }
