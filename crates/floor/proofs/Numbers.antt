-- Headings by their numbers: each has one of its own below eight, and there are no others.
use Rattle.std.proofs.Common.{◌≡◌, ℕ, zero, suc, ◌<◌, ◌⊎◌, true, Some, sym, refl, ap, ◌∙◌, inl, inr, arith}
use Rattle.std.proofs.lemmas.Bool.{cases_eq, eqb-true, eq-eqb}
use Rattle.floor.specs.declared.Heading.{Heading}
use Rattle.floor.specs.declared.Heading.TheVariants.{North, NorthEast, East, SouthEast, South, SouthWest, West, NorthWest}
use Rattle.floor.specs.Plane.{number, heading, same}
use Rattle.floor.proofs.Plane.{each}

-- the heading of a heading's number is that heading
pub numbered : (h : Heading) → heading (number h) ≡ Some h
numbered = each (λ h. heading (number h) ≡ Some h) refl refl refl refl refl refl refl refl

-- a heading's number is below eight
pub number_below : (h : Heading) → number h < 8
number_below = each (λ h. number h < 8) (omega arith) (omega arith) (omega arith) (omega arith) (omega arith) (omega arith) (omega arith) (omega arith)

-- each number below eight is a heading's
pub heading_at : (n : ℕ) → n < 8 → (h : Heading) × (number h ≡ n)
heading_at zero b = (North, refl)
heading_at (suc zero) b = (NorthEast, refl)
heading_at (suc (suc zero)) b = (East, refl)
heading_at (suc (suc (suc zero))) b = (SouthEast, refl)
heading_at (suc (suc (suc (suc zero)))) b = (South, refl)
heading_at (suc (suc (suc (suc (suc zero))))) b = (SouthWest, refl)
heading_at (suc (suc (suc (suc (suc (suc zero)))))) b = (West, refl)
heading_at (suc (suc (suc (suc (suc (suc (suc zero))))))) b = (NorthWest, refl)
heading_at (suc (suc (suc (suc (suc (suc (suc (suc n)))))))) b = absurd (omega arith)

-- two headings of one number are one
pub number_same : (h g : Heading) → number h ≡ number g → h ≡ g
number_same h g e =
    let p : Some h ≡ Some g = sym (numbered h) ∙ ap heading e ∙ numbered g in cc

pub heading_dec : (h g : Heading) → (h ≡ g) ⊎ (h ≡ g → ⊥)
heading_dec h g = elim (cases_eq (number h) (number g)) [ inl e ↦ inl (number_same h g e) | inr n ↦ inr (λ e. n (ap number e)) ]

pub same_is : (h g : Heading) → same h g ≡ true → h ≡ g
same_is h g e = number_same h g (eqb-true _ _ e)

pub same_self : (h : Heading) → same h h ≡ true
same_self h = eq-eqb _ _ refl
