-- Headings differ where their numbers do.
use Rattle.std.proofs.Common.{◌≡◌, ◌==◌, not, refl, ◌∙◌}
use denote.Enum.Declared.{tag_of}
use Rattle.floor.specs.contracts.Heading.{the_type}
use Rattle.floor.specs.declared.Heading.{Heading}
use Rattle.floor.specs.Plane.{number, same}
use Rattle.floor.proofs.Plane.{each}
use Rattle.places.specs.Leaps.{heading_of}
use Rattle.lengths.proofs.drawing.turns.Goals as goal

tag_number : (h : Heading) → tag_of the_type h ≡ number h
tag_number = each (λ h. tag_of the_type h ≡ number h) refl refl refl refl refl refl refl refl

pub returns : goal.returns
returns c =
    let e : not (tag_of the_type c.heading_of.result == tag_of the_type c.heading_of-2.result) ≡ not (same (heading_of c.args.back) (heading_of c.args.at)) =
    (λ i. not (tag_number c.heading_of.result i == tag_number c.heading_of-2.result i)) ∙ (λ i. not (same (c.heading_of.ensures i) (c.heading_of-2.ensures i))) in
    cc
