-- What a legal step is made of, and that the laying of legal steps is fair.
use Rattle.std.proofs.Common.{◌≡◌, Bool, true, false, not, ◌&&◌, ◌||◌, sym, refl, ap, ◌∙◌, subst}
use Rattle.std.proofs.lemmas.Bool.{both_ways, and_parts, and_from}
use Rattle.floor.specs.declared.Heading.{Heading}
use Rattle.floor.specs.declared.Side.{Side}
use Rattle.floor.specs.declared.Side.TheVariants.{Left, Right}
use Rattle.floor.specs.Plane.{Point, turn, opposite, diagonal, step}
use Rattle.floor.specs.Plans.{legal}
use Rattle.floor.specs.Routes.{Grows, Fair}
use Rattle.floor.proofs.Plane.{other, turn_back, turn_opposite, opposite_diagonal, beside_diagonal, undo, beside}

module _ (free : Point → Bool) where
  -- a legal step by its cells
  pub record Legal (x : Point) (h : Heading) : Type 0 where
    pub here : free x ≡ true
    pub there : free (step h x) ≡ true
    pub sides : diagonal h ≡ true → (s : Side) → free (step (turn s h) x) ≡ true

  either_side : (x : Point) (h : Heading) (b : Bool) → b ≡ true → (not b || (free (step (turn Left h) x) && free (step (turn Right h) x))) ≡ true → (s : Side) → free (step (turn s h) x) ≡ true
  either_side x h true d e Left = (and_parts _ _ e).0
  either_side x h true d e Right = (and_parts _ _ e).1
  either_side x h false d e s = absurd (both_ways false refl d)

  pub legal_parts : (x : Point) (h : Heading) → legal free x h ≡ true → Legal x h
  unfolding legal
  legal_parts x h l =
      let p = and_parts (free x && free (step h x)) _ l in
      let q = and_parts (free x) (free (step h x)) p.0 in
      record { here = q.0; there = q.1; sides = λ d. either_side x h (diagonal h) d p.1 }

  no_corner : (x : Point) (h : Heading) (b : Bool) → (b ≡ true → (s : Side) → free (step (turn s h) x) ≡ true) → (not b || (free (step (turn Left h) x) && free (step (turn Right h) x))) ≡ true
  no_corner x h true s = and_from _ _ (s refl Left) (s refl Right)
  no_corner x h false s = refl

  pub legal_from : (x : Point) (h : Heading) → Legal x h → legal free x h ≡ true
  unfolding legal
  legal_from x h l = and_from _ _ (and_from _ _ l.here l.there) (no_corner x h (diagonal h) l.sides)

-- the cell beside a diagonal step on one side is beside the step back on the other
pub side_back : (s : Side) (h : Heading) (x : Point) → diagonal h ≡ true → step (turn s (opposite h)) (step h x) ≡ step (turn (other s) h) x
side_back s h x d =
    let k : Heading = turn (other s) h in
    let e : step h x ≡ step (turn s h) (step k x) = subst (λ z. step z x ≡ step (turn s z) (step k x)) (turn_back s h) (beside s k x (beside_diagonal (other s) h d)) in
    subst (λ g. step g (step h x) ≡ step k x) (sym (turn_opposite s h)) (ap (step (opposite (turn s h))) e ∙ undo (turn s h) (step k x))

legal_back : (free : Point → Bool) (x : Point) (h : Heading) → legal free x h ≡ true → legal free (step h x) (opposite h) ≡ true
legal_back free x h l =
    let p = legal_parts free x h l in
    legal_from free (step h x) (opposite h) (record {
      here = p.there;
      there = subst (λ y. free y ≡ true) (sym (undo h x)) p.here;
      sides = λ d s.
          let e : diagonal h ≡ true = sym (opposite_diagonal h) ∙ d in
          subst (λ y. free y ≡ true) (sym (side_back s h x e)) (p.sides e (other s));
    })

legal_grows : (free more : Point → Bool) → Grows free more → (x : Point) (h : Heading) → legal free x h ≡ true → legal more x h ≡ true
legal_grows free more grow x h l =
    let p = legal_parts free x h l in
    legal_from more x h (record { here = grow _ p.here; there = grow _ p.there; sides = λ d s. grow _ (p.sides d s) })

pub legal_fair : Fair legal
legal_fair = record {
  leaves = λ free x h l. (legal_parts free x h l).here;
  arrives = λ free x h l. (legal_parts free x h l).there;
  back = legal_back;
  stays = legal_grows;
}
