-- Rows and columns along a heading: each is shifted by itself, so a target is sighted where a shift meets its row or its column.
use Rattle.std.proofs.Common.{◌≡◌, ℕ, zero, suc, ◌<◌, ◌≤◌, Bool, true, false, cond, ◌&&◌, ◌||◌, eqb, ltb, ℤ, pos, negsuc, Some, None, Option, sym, refl, ap, ◌∙◌, subst, inl, inr, arith}
use borrow.Author.Differences.{ints}
use Rattle.std.proofs.lemmas.Bool.{cases_Bool, cases_eq, and_left, and_right, or_left, or_right, or_from, cond-true, cond-false, eqb-true, eq-eqb, ne_eqb, ltb-true, ltb-false, false≢true}
use Rattle.floor.specs.declared.Cell.{Cell}
use Rattle.floor.specs.declared.Heading.{Heading}
use Rattle.floor.specs.Plane.{Point, point, diagonal, down, across, step}
use Rattle.floor.specs.Jumps.{walk}
use Rattle.floor.specs.Places.{same_int, sights}
use Rattle.floor.proofs.Plane.{each}
use Rattle.floor.specs.declared.shifts.Shift.{Shift}
use Rattle.floor.specs.declared.shifts.Shift.TheVariants.{Less, Same, More}
use Rattle.floor.specs.Steps.{by, shifted, Meets}
use Rattle.floor.proofs.Shifting.{shifted_same}
use Rattle.pruning.specs.Successors.{Sighted, nearest}
use Rattle.pruning.proofs.Sightings.{same_int_from}

-- ---- walks by row and column

pub walk_row : (h : Heading) (k : ℕ) (x : Point) → (walk h k x).row ≡ shifted (down h) k x.row
unfolding step
walk_row h zero x = refl
walk_row h (suc k) x = walk_row h k (step h x)

pub walk_col : (h : Heading) (k : ℕ) (x : Point) → (walk h k x).col ≡ shifted (across h) k x.col
unfolding step
walk_col h zero x = refl
walk_col h (suc k) x = walk_col h k (step h x)

-- ---- sightings

same_int_is : (a b : ℤ) → same_int a b ≡ true → a ≡ b
same_int_is (pos m) (pos n) e = ap pos (eqb-true m n e)
same_int_is (negsuc m) (negsuc n) e = ap negsuc (eqb-true m n e)
same_int_is (pos m) (negsuc n) e = absurd (false≢true e)
same_int_is (negsuc m) (pos n) e = absurd (false≢true e)

-- whether a number is the one looked for
abbrev hits : Option ℕ → ℕ → Bool
hits (Some k) i = eqb i k
hits None i = false

abbrev Positive : Option ℕ → Type 0
Positive (Some k) = 1 ≤ k
Positive None = Unit {0}

apart_ints : negsuc 0 ≡ pos 0 → ⊥
apart_ints e = omega (arith, ints)

one_zero : pos 1 ≡ pos 0 → ⊥
one_zero e = omega (arith, ints)

module _ (d : Shift) (from to : ℕ) where
  meeting : ℕ → Bool
  meeting i = same_int (shifted (by d) i (pos from)) (pos to)

  only : (o : Option ℕ) → (d ≡ Same → ⊥) → Meets d from to o → (i : ℕ) → 1 ≤ i → meeting i ≡ hits o i
  unfolding meeting
  only (Some k) moves m i l = elim (cases_eq i k) [
    | inl e ↦ same_int_from (subst (λ j. shifted (by d) j (pos from) ≡ pos to) (sym e) m.1) ∙ sym (eq-eqb i k e)
    | inr n ↦ elim (cases_Bool (meeting i)) [
      | inl t ↦ absurd (n (m.2 i (same_int_is _ _ t)))
      | inr f ↦ f ∙ sym (ne_eqb i k n)
    ]
  ]
  only None moves m i l = elim (cases_Bool (meeting i)) [
    | inl t ↦ absurd (m moves i l (same_int_is _ _ t))
    | inr f ↦ f
  ]

  still : d ≡ Same → (i : ℕ) → meeting i ≡ eqb from to
  unfolding meeting
  still e i = ap (λ z. same_int z (pos to)) (subst (λ b. shifted (by b) i (pos from) ≡ pos from) (sym e) (shifted_same i (pos from)))

  positive : (o : Option ℕ) → Meets d from to o → Positive o
  positive (Some k) m = m.0
  positive None m = tt

-- the first number, from 1 on, that passes a test
abbrev Firsts : (ℕ → Bool) → Option ℕ → Type 0
Firsts test (Some k) = (1 ≤ k) × (test k ≡ true) × ((i : ℕ) → 1 ≤ i → i < k → test i ≡ false)
Firsts test None = (i : ℕ) → 1 ≤ i → test i ≡ false

firsts_as : (test other : ℕ → Bool) → ((i : ℕ) → 1 ≤ i → test i ≡ other i) → (o : Option ℕ) → Firsts other o → Firsts test o
firsts_as test other e (Some k) f = (f.0, e k f.0 ∙ f.1, λ i l b. e i l ∙ f.2 i l b)
firsts_as test other e None f = λ i l. e i l ∙ f i l

firsts_one : (o : Option ℕ) → Positive o → Firsts (hits o) o
firsts_one (Some k) p = (p, eq-eqb k k refl, λ i l b. ne_eqb i k (λ e. omega arith))
firsts_one None p = λ i l. refl

firsts_two : (a b : Option ℕ) → Positive a → Positive b → Firsts (λ i. hits a i || hits b i) (nearest a b)
firsts_two (Some a) (Some b) p q = elim (cases_Bool (ltb b a)) [
  | inl l ↦ subst (Firsts (λ i. eqb i a || eqb i b)) (sym (cond-true (ltb b a) _ _ l))
      (q, or_right _ _ (eq-eqb b b refl), λ i m n. or_from _ _ (ne_eqb i a (λ e. omega (arith, ltb-true b a l))) (ne_eqb i b (λ e. omega arith)))
  | inr l ↦ subst (Firsts (λ i. eqb i a || eqb i b)) (sym (cond-false (ltb b a) _ _ l))
      (p, or_left _ _ (eq-eqb a a refl), λ i m n. or_from _ _ (ne_eqb i a (λ e. omega arith)) (ne_eqb i b (λ e. omega (arith, ltb-false b a l))))
]
firsts_two (Some a) None p q = (p, or_left _ _ (eq-eqb a a refl), λ i m n. or_from _ _ (ne_eqb i a (λ e. omega arith)) refl)
firsts_two None (Some b) p q = (q, eq-eqb b b refl, λ i m n. ne_eqb i b (λ e. omega arith))
firsts_two None None p q = λ i l. refl

-- the kinds of a heading, by what it does to row and column
level : (h : Heading) → down h ≡ pos 0 → (diagonal h ≡ false) × (across h ≡ pos 0 → ⊥)
level = each (λ h. down h ≡ pos 0 → (diagonal h ≡ false) × (across h ≡ pos 0 → ⊥))
    (λ e. absurd (apart_ints e)) (λ e. absurd (apart_ints e)) (λ e. (refl, λ z. one_zero z)) (λ e. absurd (one_zero e))
    (λ e. absurd (one_zero e)) (λ e. absurd (one_zero e)) (λ e. (refl, λ z. apart_ints z)) (λ e. absurd (apart_ints e))

upright : (h : Heading) → across h ≡ pos 0 → diagonal h ≡ false
upright = each (λ h. across h ≡ pos 0 → diagonal h ≡ false)
    (λ e. refl) (λ e. absurd (one_zero e)) (λ e. refl) (λ e. absurd (one_zero e)) (λ e. refl) (λ e. absurd (apart_ints e)) (λ e. refl) (λ e. absurd (apart_ints e))

slanting : (h : Heading) → (down h ≡ pos 0 → ⊥) → (across h ≡ pos 0 → ⊥) → diagonal h ≡ true
slanting = each (λ h. (down h ≡ pos 0 → ⊥) → (across h ≡ pos 0 → ⊥) → diagonal h ≡ true)
    (λ r c. absurd (c refl)) (λ r c. refl) (λ r c. absurd (r refl)) (λ r c. refl) (λ r c. absurd (c refl)) (λ r c. refl) (λ r c. absurd (r refl)) (λ r c. refl)

still_by : (d : Shift) → by d ≡ pos 0 → d ≡ Same
still_by Less e = absurd (apart_ints e)
still_by Same e = refl
still_by More e = absurd (one_zero e)

and_true : (b : Bool) → (b && true) ≡ b
and_true true = refl
and_true false = refl

module _ (c t : Cell) (h : Heading) (d e : Shift) (rows : by d ≡ down h) (cols : by e ≡ across h) where
  -- what a heading sights after i steps
  sees : (i : ℕ) → sights (point t) h (walk h i (point c)) ≡
      cond (diagonal h) (meeting d c.row t.row i || meeting e c.col t.col i) (meeting d c.row t.row i && meeting e c.col t.col i)
  unfolding meeting
  sees i =
      let r : (walk h i (point c)).row ≡ shifted (by d) i (pos c.row) = walk_row h i (point c) ∙ ap (λ z. shifted z i (pos c.row)) (sym rows) in
      let k : (walk h i (point c)).col ≡ shifted (by e) i (pos c.col) = walk_col h i (point c) ∙ ap (λ z. shifted z i (pos c.col)) (sym cols) in
      λ j. cond (diagonal h) (same_int (r j) (pos t.row) || same_int (k j) (pos t.col)) (same_int (r j) (pos t.row) && same_int (k j) (pos t.col))

  seen : ℕ → Bool
  seen i = sights (point t) h (walk h i (point c))

  sighted : (test : ℕ → Bool) → ((i : ℕ) → 1 ≤ i → seen i ≡ test i) → (o : Option ℕ) → Firsts test o → Sighted (point t) h (point c) o
  unfolding seen
  sighted test e (Some k) f = firsts_as seen test e (Some k) f
  sighted test e None f = firsts_as seen test e None f

  straight : diagonal h ≡ false → (i : ℕ) → seen i ≡ (meeting d c.row t.row i && meeting e c.col t.col i)
  unfolding seen
  straight z i = sees i ∙ cond-false (diagonal h) _ _ z

  -- along a row
  pub sighted_across : (o : Option ℕ) → d ≡ Same → c.row ≡ t.row → Meets e c.col t.col o → Sighted (point t) h (point c) o
  sighted_across o s r m =
      let z : down h ≡ pos 0 = sym rows ∙ ap by s in
      let moves : e ≡ Same → ⊥ = λ q. (level h z).1 (sym cols ∙ ap by q) in
      sighted (hits o)
      (λ i l. straight (level h z).0 i ∙ ap (λ b. b && meeting e c.col t.col i) (still d c.row t.row s i ∙ eq-eqb _ _ r) ∙ only e c.col t.col o moves m i l)
      o (firsts_one o (positive e c.col t.col o m))

  -- along a column
  pub sighted_down : (o : Option ℕ) → e ≡ Same → c.col ≡ t.col → Meets d c.row t.row o → Sighted (point t) h (point c) o
  sighted_down o s r m =
      let z : across h ≡ pos 0 = sym cols ∙ ap by s in
      let moves : d ≡ Same → ⊥ = λ q. (level h (sym rows ∙ ap by q)).1 z in
      sighted (hits o)
      (λ i l. straight (upright h z) i ∙ ap (λ b. meeting d c.row t.row i && b) (still e c.col t.col s i ∙ eq-eqb _ _ r) ∙
      and_true (meeting d c.row t.row i) ∙ only d c.row t.row o moves m i l)
      o (firsts_one o (positive d c.row t.row o m))

  -- beside the target's row or column
  pub sighted_not_across : d ≡ Same → (c.row ≡ t.row → ⊥) → Sighted (point t) h (point c) None
  unfolding seen
  sighted_not_across s n i l =
      straight (level h (sym rows ∙ ap by s)).0 i ∙ and_left _ _ (still d c.row t.row s i ∙ ne_eqb _ _ n)

  pub sighted_not_down : e ≡ Same → (c.col ≡ t.col → ⊥) → Sighted (point t) h (point c) None
  unfolding seen
  sighted_not_down s n i l =
      straight (upright h (sym cols ∙ ap by s)) i ∙ and_right _ _ (still e c.col t.col s i ∙ ne_eqb _ _ n)

  -- on a diagonal: the nearer of row and column
  pub sighted_nearer : (a b : Option ℕ) → (d ≡ Same → ⊥) → (e ≡ Same → ⊥) → Meets d c.row t.row a → Meets e c.col t.col b → Sighted (point t) h (point c) (nearest a b)
  unfolding seen
  sighted_nearer a b u v m n =
      let z : diagonal h ≡ true = slanting h (λ q. u (still_by d (rows ∙ q))) (λ q. v (still_by e (cols ∙ q))) in
      sighted (λ i. hits a i || hits b i)
      (λ i l. sees i ∙ cond-true (diagonal h) _ _ z ∙ (λ j. only d c.row t.row a u m i l j || only e c.col t.col b v n i l j))
      (nearest a b) (firsts_two a b (positive d c.row t.row a m) (positive e c.col t.col b n))
