-- A stop by the cells around the place itself, and the headings of a place put together.
use Rattle.std.proofs.Common.{◌≡◌, Bool, true, false, not, ◌&&◌, ◌||◌, List, replicate, sym, refl, ap, ◌∙◌}
use mathlib.Core.Bool.{false≢true}
use Rattle.std.proofs.Math.Bool.{and_comm}
use Rattle.std.proofs.lemmas.Bool.{cond-true, cond-false}
use Rattle.floor.specs.declared.Heading.{Heading}
use Rattle.floor.specs.declared.Side.{Side}
use Rattle.floor.specs.declared.Side.TheVariants.{Left, Right}
use Rattle.floor.specs.Plane.{Point, same, turn, opposite, diagonal, step}
use Rattle.floor.specs.Plans.{Plan, opens}
use Rattle.floor.specs.Jumps.{stop}
use Rattle.floor.specs.Places.{place, opened}
use Rattle.floor.proofs.Plane.{each, about, beside_straight, beside_diagonal, redo, swap, beside}
use Rattle.pruning.specs.Goings.{taken, Goings}

-- beside the cell before lies the cell three turns off
behind : (s : Side) (h : Heading) (x : Point) → diagonal h ≡ false → step (turn s (turn s (turn s h))) x ≡ step (turn s (turn s h)) (step (opposite h) x)
behind s h x d =
    beside s (turn s (turn s h)) x (beside_diagonal s (turn s h) (beside_straight s h d)) ∙
    ap (λ g. step g (step (turn s (turn s h)) x)) (about s h) ∙ swap (opposite h) (turn s (turn s h)) x

-- A place is a stop on a side if the cell beside it is open and the one beside the cell before is not.
pub stop_here : (free : Point → Bool) (s : Side) (h : Heading) (x : Point) → diagonal h ≡ false → (t₂ t₃ : Heading) → t₂ ≡ turn s (turn s h) → t₃ ≡ turn s (turn s (turn s h)) →
    (free (step t₂ x) && not (free (step t₃ x))) ≡ stop free (step (opposite h) x) h s
unfolding stop
stop_here free s h x d t₂ t₃ e₂ e₃ =
    (λ i. free (step (e₂ i) x) && not (free (step (e₃ i) x))) ∙
    and_comm (free (step (turn s (turn s h)) x)) (not (free (step (turn s (turn s (turn s h))) x))) ∙
    (λ i. not (free (behind s h x d i)) && free (step (turn s (turn s h)) (sym (redo h x) i)))

either_added : (stop a b on : Bool) → stop ≡ true → (a || (b || on)) ≡ ((stop && (a || b)) || on)
either_added true true b on e = refl
either_added true false b on e = refl
either_added false a b on e = absurd (false≢true e)

gathered : (a b c : Bool) → (c || (b || (a || false))) ≡ (a || (b || c))
gathered true true true = refl
gathered true true false = refl
gathered true false true = refl
gathered true false false = refl
gathered false true true = refl
gathered false true false = refl
gathered false false true = refl
gathered false false false = refl

none_taken : (g : Heading) → taken (replicate 8 false) g ≡ false
none_taken = each (λ g. taken (replicate 8 false) g ≡ false) refl refl refl refl refl refl refl refl

-- the marks are those of another list and what a test adds
abbrev pub Added : (Heading → Bool) → List Bool → List Bool → Type 0
Added test on more = (g : Heading) → taken more g ≡ (test g || taken on g)

module _ (p : Plan) (x : Point) (h : Heading) where
  -- what a stop adds
  pub side_added : (s : Side) (on more all : List Bool) (beside beyond : Heading) → beside ≡ turn s h → beyond ≡ turn s (turn s h) →
      true ≡ stop (opens p) (step (opposite h) x) h s → Added (λ g. same g beyond) on more → Added (λ g. same g beside) more all → Added (λ g. opened p x h g s) on all
  side_added s on more all beside beyond b e z m a g =
      a g ∙ ap (λ t. same g beside || t) (m g) ∙ (λ i. same g (b i) || (same g (e i) || taken on g)) ∙
      either_added (stop (opens p) (step (opposite h) x) h s) (same g (turn s h)) (same g (turn s (turn s h))) (taken on g) (sym z)

  -- ahead, and what two tests add, left first
  three : (left right : Heading → Bool) (on more all : List Bool) → Added (λ g. same g h) (replicate 8 false) on → Added left on more → Added right more all →
      (g : Heading) → taken all g ≡ (same g h || (left g || right g))
  three left right on more all a l r g =
      r g ∙ ap (λ t. right g || t) (l g ∙ ap (λ t. left g || t) (a g ∙ ap (λ t. same g h || t) (none_taken g))) ∙ gathered (same g h) (left g) (right g)

  pub diagonal_goings : (l r : Heading) (on more all : List Bool) → true ≡ diagonal h → l ≡ turn Left h → r ≡ turn Right h → Added (λ g. same g h) (replicate 8 false) on →
      Added (λ g. same g l) on more → Added (λ g. same g r) more all → Goings p (place x h) all
  diagonal_goings l r on more all d u v a b c g =
      three (λ k. same k l) (λ k. same k r) on more all a b c g ∙ (λ i. same g h || (same g (u i) || same g (v i))) ∙
      ap (λ t. same g h || t) (sym (cond-true (diagonal h) _ _ (sym d)))

  pub straight_goings : (on more all : List Bool) → false ≡ diagonal h → Added (λ g. same g h) (replicate 8 false) on →
      Added (λ g. opened p x h g Left) on more → Added (λ g. opened p x h g Right) more all → Goings p (place x h) all
  straight_goings on more all d a b c g =
      three (λ k. opened p x h k Left) (λ k. opened p x h k Right) on more all a b c g ∙ ap (λ t. same g h || t) (sym (cond-false (diagonal h) _ _ (sym d)))
