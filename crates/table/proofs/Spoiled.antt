-- Which equations a change can break: those that mention what was changed, and these lie close by.
use Rattle.std.proofs.Common.{◌≡◌, ℕ, Bool, true, false, cond, not, ◌&&◌, ◌||◌, ◌⊎◌, List, [], ◌∷◌, sym, refl, ap, ◌∙◌, subst, inl, inr, arith}
use borrow.Author.Differences.{ints}
use Rattle.std.proofs.lemmas.Bool.{cases_Bool, both_ways, not-true}
use Rattle.floor.specs.declared.Heading.{Heading}
use Rattle.floor.specs.declared.Heading.TheVariants.{North, NorthEast, East, SouthEast, South, SouthWest, West, NorthWest}
use Rattle.floor.specs.declared.Side.{Side}
use Rattle.floor.specs.declared.Side.TheVariants.{Left, Right}
use Rattle.floor.specs.Plane.{Point, turn, opposite, diagonal, step}
use Rattle.floor.specs.Plans.{legal}
use Rattle.floor.specs.Jumps.{stop, stops}
use Rattle.floor.proofs.Plane.{other, both_sides, turn_forth, turn_opposite, turn_diagonal, undo, beside}
use Rattle.floor.proofs.Numbers.{heading_dec}
use Rattle.floor.proofs.Simple.{point_dec}
use Rattle.table.specs.Equations.{dead, live, one_on, ends, due, Holds, HoldsBut, Seed, seed, Among, seeds}

-- ---- points

-- each step leads to another point
pub moves : (h : Heading) (x : Point) → step h x ≡ x → ⊥
unfolding step
moves North x e = omega (arith, ints, ap (λ (y : Point). y.row) e)
moves NorthEast x e = omega (arith, ints, ap (λ (y : Point). y.row) e)
moves East x e = omega (arith, ints, ap (λ (y : Point). y.col) e)
moves SouthEast x e = omega (arith, ints, ap (λ (y : Point). y.row) e)
moves South x e = omega (arith, ints, ap (λ (y : Point). y.row) e)
moves SouthWest x e = omega (arith, ints, ap (λ (y : Point). y.row) e)
moves West x e = omega (arith, ints, ap (λ (y : Point). y.col) e)
moves NorthWest x e = omega (arith, ints, ap (λ (y : Point). y.row) e)

-- where a step leads to m, it came from one step back
pub came_from : (h : Heading) (x m : Point) → step h x ≡ m → x ≡ step (opposite h) m
came_from h x m e = sym (undo h x) ∙ ap (step (opposite h)) e

-- ---- what a label should be depends on little

-- on three labels one step on, and of two of them only on whether they are live
due_labels : (free : Point → Bool) (label label' : Point → Heading → ℕ) (x : Point) (h : Heading) → label (step h x) h ≡ label' (step h x) h →
    (diagonal h ≡ true → (s : Side) → live (label (step h x) (turn s h)) ≡ live (label' (step h x) (turn s h))) → due free label x h ≡ due free label' x h
unfolding due ends
due_labels free label label' x h next beside-it =
    let same_ends : cond (diagonal h) (live (label (step h x) (turn Left h)) || live (label (step h x) (turn Right h))) (stops free x h) ≡
    cond (diagonal h) (live (label' (step h x) (turn Left h)) || live (label' (step h x) (turn Right h))) (stops free x h) = elim (cases_Bool (diagonal h)) [
      | inl d ↦ λ i. cond (diagonal h) (beside-it d Left i || beside-it d Right i) (stops free x h)
      | inr d ↦ ap (λ b. cond b (live (label (step h x) (turn Left h)) || live (label (step h x) (turn Right h))) (stops free x h)) d ∙
          sym (ap (λ b. cond b (live (label' (step h x) (turn Left h)) || live (label' (step h x) (turn Right h))) (stops free x h)) d)
    ] in
    λ i. cond (legal free x h) (cond (same_ends i) 1 (one_on (next i))) dead

-- and on the openness of the cells from which the step starts, where it ends, next to it, and for a straight step beside its start
due_free : (free free' : Point → Bool) (label : Point → Heading → ℕ) (x : Point) (h : Heading) → free x ≡ free' x → free (step h x) ≡ free' (step h x) →
    ((s : Side) → free (step (turn s h) x) ≡ free' (step (turn s h) x)) →
    (diagonal h ≡ false → (s : Side) → free (step (turn s (turn s h)) x) ≡ free' (step (turn s (turn s h)) x)) → due free label x h ≡ due free' label x h
unfolding due ends legal stop
due_free free free' label x h here there next aside =
    let may : legal free x h ≡ legal free' x h = λ i. (here i && there i) && (not (diagonal h) || (next Left i && next Right i)) in
    let same_stop : (d : diagonal h ≡ false) (s : Side) → stop free x h s ≡ stop free' x h s = λ d s.
    let e : free (step (turn s (turn s h)) (step h x)) ≡ free' (step (turn s (turn s h)) (step h x)) = subst (λ y. free y ≡ free' y) (beside s h x d) (next s) in
    λ i. not (aside d s i) && e i in
    let same_ends : ends free label x h ≡ ends free' label x h = elim (cases_Bool (diagonal h)) [
      | inl d ↦ ap (λ b. cond b (live (label (step h x) (turn Left h)) || live (label (step h x) (turn Right h))) (stops free x h)) d ∙
          sym (ap (λ b. cond b (live (label (step h x) (turn Left h)) || live (label (step h x) (turn Right h))) (stops free' x h)) d)
      | inr d ↦ λ i. cond (diagonal h) (live (label (step h x) (turn Left h)) || live (label (step h x) (turn Right h))) (same_stop d Left i || same_stop d Right i)
    ] in
    λ i. cond (may i) (cond (same_ends i) 1 (one_on (label (step h x) h))) dead

-- ---- one label put right

module _ (free : Point → Bool) (old new : Point → Heading → ℕ) (x : Point) (h : Heading) (put : new x h ≡ due free old x h)
    (kept : (y : Point) (g : Heading) → (y ≡ x → g ≡ h → ⊥) → new y g ≡ old y g) where
  -- nobody beside looks at the label, or it did not turn live or dead
  abbrev pub Quiet : Type 0
  Quiet = (diagonal h ≡ true) ⊎ (live (old x h) ≡ live (new x h))

  -- What becomes of an equation: it holds; or it is the one a step back; or it is one beside, that looks at whether the label is live.
  pub data After (y : Point) (g : Heading) : Type 0 where
    still : Holds free new y g → After y g
    back : y ≡ step (opposite h) x → g ≡ h → After y g
    looks : (s : Side) → y ≡ step (opposite (turn s h)) x → g ≡ turn s h → (Quiet → Holds free new y g) → After y g

  -- labels elsewhere stay
  elsewhere : (y : Point) (g : Heading) → (y ≡ x → ⊥) → old y g ≡ new y g
  elsewhere y g n = sym (kept y g (λ e f. n e))

  -- the label itself is right now
  itself : Holds free new x h
  itself = put ∙ due_labels free old new x h (elsewhere (step h x) h (moves h x)) (λ d s. ap live (elsewhere (step h x) (turn s h) (moves h x)))

  -- the other equations of steps that lead to x
  module _ (y : Point) (g : Heading) (n : g ≡ h → ⊥) (e : step g y ≡ x) (stays : new y g ≡ old y g) (holds : Holds free old y g) where
    abbrev Alike : Side → Type 0
    Alike s = live (old (step g y) (turn s g)) ≡ live (new (step g y) (turn s g))

    holds_still : (diagonal g ≡ true → (s : Side) → Alike s) → Holds free new y g
    holds_still q = stays ∙ holds ∙ due_labels free old new y g (sym (kept (step g y) g (λ _. n))) q

    other_label : (s : Side) → (turn s g ≡ h → ⊥) → Alike s
    other_label s t = ap live (sym (kept (step g y) (turn s g) (λ _. t)))

    calm : live (old x h) ≡ live (new x h) → (s : Side) → Alike s
    calm same s = elim (heading_dec (turn s g) h) [
      | inl t ↦ subst (λ z. live (old z (turn s g)) ≡ live (new z (turn s g))) (sym e) (subst (λ k. live (old x k) ≡ live (new x k)) (sym t) same)
      | inr t ↦ other_label s t
    ]

    looking : (s : Side) → turn s g ≡ h → After y g
    looking s t =
        let w : g ≡ turn (other s) h = sym (turn_forth s g) ∙ ap (turn (other s)) t in
        looks (other s) (came_from g y x e ∙ ap (λ k. step (opposite k) x) w) w
        (λ q. elim q [ inl d ↦ holds_still (λ d'. absurd (both_ways _ (not-true _ (sym (turn_diagonal s g) ∙ ap diagonal t ∙ d)) d')) | inr same ↦ holds_still (λ _. calm same) ])

    leads : After y g
    leads = elim (heading_dec (turn Left g) h) [
      | inl t ↦ looking Left t
      | inr t ↦ elim (heading_dec (turn Right g) h) [
        | inl t' ↦ looking Right t'
        | inr t' ↦ still (holds_still (λ _. both_sides Left Alike (other_label Left t) (other_label Right t')))
      ]
    ]

  unsettled : (y : Point) (g : Heading) → (y ≡ x → g ≡ h → ⊥) → Holds free old y g → After y g
  unsettled y g n holds = elim (point_dec (step g y) x) [
    | inr far ↦ still (kept y g n ∙ holds ∙ due_labels free old new y g (elsewhere (step g y) g far) (λ d s. ap live (elsewhere (step g y) (turn s g) far)))
    | inl e ↦ elim (heading_dec g h) [
      | inl w ↦ back (came_from g y x e ∙ ap (λ k. step (opposite k) x) w) w
      | inr w ↦ leads y g w e (kept y g n) holds
    ]
  ]

  at_itself : (y : Point) (g : Heading) → y ≡ x → g ≡ h → After y g
  at_itself y g e f = still (subst (λ z. Holds free new z g) (sym e) (subst (λ k. Holds free new x k) (sym f) itself))

  after : (y : Point) (g : Heading) → Holds free old y g → After y g
  after y g holds = elim (point_dec y x) [
    | inr n ↦ unsettled y g (λ e f. n e) holds
    | inl e ↦ elim (heading_dec g h) [ inr n ↦ unsettled y g (λ _ f. n f) holds | inl f ↦ at_itself y g e f ]
  ]

  after_seed : (w : List Seed) (y : Point) (g : Heading) → Holds free old y g ⊎ Among y g (seed x h ∷ w) → After y g ⊎ Among y g w
  after_seed w y g (inl holds) = inl (after y g holds)
  after_seed w y g (inr (inl (e, f))) = inl (at_itself y g e f)
  after_seed w y g (inr (inr a)) = inr a

  -- A label put right leaves one seed, a step back.
  pub quiet_step : Quiet → (w : List Seed) → HoldsBut free old (seed x h ∷ w) → HoldsBut free new (seed (step (opposite h) x) h ∷ w)
  quiet_step q w all y g = elim (after_seed w y g (all y g)) [
    | inr a ↦ inr (inr a)
    | inl (still k) ↦ inl k
    | inl (back e f) ↦ inr (inl (e, f))
    | inl (looks s e f k) ↦ inl (k q)
  ]

  -- One that turned live or dead leaves two more, where the headings beside look at it.
  pub loud_step : (w : List Seed) → HoldsBut free old (seed x h ∷ w) →
      HoldsBut free new (seed (step (opposite (turn Left h)) x) (turn Left h) ∷ seed (step (opposite (turn Right h)) x) (turn Right h) ∷ seed (step (opposite h) x) h ∷ w)
  loud_step w all y g = elim (after_seed w y g (all y g)) [
    | inr a ↦ inr (inr (inr (inr a)))
    | inl (still k) ↦ inl k
    | inl (back e f) ↦ inr (inr (inr (inl (e, f))))
    | inl (looks Left e f k) ↦ inr (inl (e, f))
    | inl (looks Right e f k) ↦ inr (inr (inl (e, f)))
  ]

-- a seed at which the equation holds is none
pub settled : (free : Point → Bool) (label : Point → Heading → ℕ) (x : Point) (h : Heading) (w : List Seed) → Holds free label x h → HoldsBut free label (seed x h ∷ w) → HoldsBut free label w
settled free label x h w holds all y g = elim (all y g) [
  | inl k ↦ inl k
  | inr (inl (e, f)) ↦ inl (subst (λ z. Holds free label z g) (sym e) (subst (λ k. Holds free label x k) (sym f) holds))
  | inr (inr a) ↦ inr a
]

-- ---- one cell marked

both : {P Q S : Type 0} → P ⊎ S → Q ⊎ S → (P × Q) ⊎ S
both (inl p) (inl q) = inl (p, q)
both (inl p) (inr s) = inr s
both (inr s) q = inr s

module _ (free free' : Point → Bool) (label : Point → Heading → ℕ) (m : Point) (kept : (y : Point) → (y ≡ m → ⊥) → free y ≡ free' y) (x : Point) (h : Heading) where
  abbrev Seeded : Type 0
  Seeded = Among x h (seeds m h)

  abbrev AlikeAt : Heading → Type 0
  AlikeAt g = free (step g x) ≡ free' (step g x)

  -- a cell next to x is as it was, or it is the marked one
  beside_x : (g : Heading) → (x ≡ step (opposite g) m → Seeded) → AlikeAt g ⊎ Seeded
  beside_x g is-seed = elim (point_dec (step g x) m) [ inl e ↦ inr (is-seed (came_from g x m e)) | inr n ↦ inl (kept (step g x) n) ]

  this : (free x ≡ free' x) ⊎ Seeded
  unfolding seeds
  this = elim (point_dec x m) [ inl e ↦ inr (inl (e, refl)) | inr n ↦ inl (kept x n) ]

  -- the seeds are named by turns from the heading back
  turned_back : (s : Side) → step (opposite (turn s h)) m ≡ step (turn s (opposite h)) m
  turned_back s = ap (λ g. step g m) (sym (turn_opposite s h))

  twice_back : (s : Side) → step (opposite (turn s (turn s h))) m ≡ step (turn s (turn s (opposite h))) m
  twice_back s = ap (λ g. step g m) (sym (turn_opposite s (turn s h)) ∙ ap (turn s) (sym (turn_opposite s h)))

  -- the last two seeds, for a straight heading
  asides : (diagonal h ≡ false → (s : Side) → AlikeAt (turn s (turn s h))) ⊎ Seeded
  unfolding seeds
  asides = elim (cases_Bool (diagonal h)) [
    | inl d ↦ inl (λ d'. absurd (both_ways _ d' d))
    | inr d ↦
        let last : Among x h (seed (step (turn Left (turn Left (opposite h))) m) h ∷ seed (step (turn Right (turn Right (opposite h))) m) h ∷ []) → Seeded =
        λ a. inr (inr (inr (inr (subst (λ b. Among x h (cond b [] (seed (step (turn Left (turn Left (opposite h))) m) h ∷ seed (step (turn Right (turn Right (opposite h))) m) h ∷ []))) (sym d) a)))) in
        elim (both (beside_x (turn Left (turn Left h)) (λ e. last (inl (e ∙ twice_back Left, refl)))) (beside_x (turn Right (turn Right h)) (λ e. last (inr (inl (e ∙ twice_back Right, refl)))))) [
          | inl (left, right) ↦ inl (λ _. both_sides Left (λ s. AlikeAt (turn s (turn s h))) left right)
          | inr a ↦ inr a
        ]
  ]

  next_to : ((s : Side) → AlikeAt (turn s h)) ⊎ Seeded
  unfolding seeds
  next_to = elim (both (beside_x (turn Left h) (λ e. inr (inr (inl (e ∙ turned_back Left, refl))))) (beside_x (turn Right h) (λ e. inr (inr (inr (inl (e ∙ turned_back Right, refl))))))) [
    | inl (left, right) ↦ inl (both_sides Left (λ s. AlikeAt (turn s h)) left right)
    | inr a ↦ inr a
  ]

  -- an equation holds as before, or it mentions the marked cell, and so is one of the seeds
  pub near : Holds free label x h → Holds free' label x h ⊎ Seeded
  unfolding seeds
  near holds = elim (both (both this (beside_x h (λ e. inr (inl (e, refl))))) (both next_to asides)) [
    | inl ((here, there), (next, aside)) ↦ inl (holds ∙ due_free free free' label x h here there next aside)
    | inr a ↦ inr a
  ]
