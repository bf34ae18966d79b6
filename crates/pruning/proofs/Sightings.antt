-- What a jump sees of the target, and how its successor follows from the successor one step on.
use Rattle.std.proofs.Common.{◌≡◌, ℕ, zero, suc, ◌<◌, Bool, true, false, cond, ◌&&◌, ◌||◌, ℤ, pos, negsuc, Some, None, Option, sym, refl, ap, ◌∙◌, subst, inl, inr, not-suc-le-zero, arith}
use lib.IntN.{+ℤ_idr}
use Rattle.std.proofs.lemmas.Bool.{cases_order, both_ways, and_from, or_left, or_right, cond-true, eq-eqb, true≢false}
use Rattle.floor.specs.declared.Heading.{Heading}
use Rattle.floor.specs.declared.Heading.TheVariants.{North, NorthEast, East, SouthEast, South, SouthWest, West, NorthWest}
use Rattle.floor.specs.Plane.{Point, diagonal, step}
use Rattle.floor.specs.Plans.{Plan}
use Rattle.floor.specs.Jumps.{walk, jump_from}
use Rattle.floor.specs.Places.{same_int, sights, first, successor}

-- ---- lines

pub same_int_from : {a b : ℤ} → a ≡ b → same_int a b ≡ true
same_int_from {a} {b} e = subst (λ z. same_int a z ≡ true) e (self a)
  where
    self : (z : ℤ) → same_int z z ≡ true
    self (pos n) = eq-eqb n n refl
    self (negsuc n) = eq-eqb n n refl

-- each cell sights itself
pub sights_self : (h : Heading) (x t : Point) → x ≡ t → sights t h x ≡ true
sights_self h x t e =
    let r : same_int x.row t.row ≡ true = same_int_from (ap (λ y. y.row) e) in
    let c : same_int x.col t.col ≡ true = same_int_from (ap (λ y. y.col) e) in
    both (diagonal h) r c
  where
    both : (b : Bool) → same_int x.row t.row ≡ true → same_int x.col t.col ≡ true →
        cond b (same_int x.row t.row || same_int x.col t.col) (same_int x.row t.row && same_int x.col t.col) ≡ true
    both true r c = or_left _ _ r
    both false r c = and_from _ _ r c

-- the row or the column that a straight heading keeps to
pub line : Heading → Point → ℤ
line North x = x.col
line NorthEast x = x.row
line East x = x.row
line SouthEast x = x.row
line South x = x.col
line SouthWest x = x.row
line West x = x.row
line NorthWest x = x.row

pub line_step : (h : Heading) (x : Point) → diagonal h ≡ false → line h (step h x) ≡ line h x
unfolding line step
line_step North x d = +ℤ_idr x.col
line_step NorthEast x d = absurd (true≢false d)
line_step East x d = +ℤ_idr x.row
line_step SouthEast x d = absurd (true≢false d)
line_step South x d = +ℤ_idr x.col
line_step SouthWest x d = absurd (true≢false d)
line_step West x d = +ℤ_idr x.row
line_step NorthWest x d = absurd (true≢false d)

-- a diagonal jump sights the target from each cell on a line with it
pub line_sights : (t : Point) (h : Heading) (x : Point) (k : Heading) → diagonal h ≡ true → line k t ≡ line k x → sights t h x ≡ true
unfolding line
line_sights t h x k d e = cond-true (diagonal h) _ _ d ∙ on k e
  where
    by_row : t.row ≡ x.row → (same_int x.row t.row || same_int x.col t.col) ≡ true
    by_row e = or_left _ _ (same_int_from (sym e))

    by_col : t.col ≡ x.col → (same_int x.row t.row || same_int x.col t.col) ≡ true
    by_col e = or_right _ _ (same_int_from (sym e))

    on : (k : Heading) → line k t ≡ line k x → (same_int x.row t.row || same_int x.col t.col) ≡ true
    on North e = by_col e
    on NorthEast e = by_row e
    on East e = by_row e
    on SouthEast e = by_row e
    on South e = by_col e
    on SouthWest e = by_row e
    on West e = by_row e
    on NorthWest e = by_row e

-- ---- the first that passes

-- What it is to look for the first number below n that passes.
pub data Look (test : ℕ → Bool) (n : ℕ) : Option ℕ → Type 0 where
  first_at : (j : ℕ) → j < n → test j ≡ true → ((i : ℕ) → i < j → test i ≡ false) → Look test n (Some j)
  no_first : ((i : ℕ) → i < n → test i ≡ false) → Look test n None

module _ (test : ℕ → Bool) where
  look_more : (n : ℕ) (o : Option ℕ) (b : Bool) → test n ≡ b → Look test n o → Look test (suc n) (elim o [ Some k ↦ Some k | None ↦ cond b (Some n) None ])
  look_more n o b e (first_at j l v u) = first_at j (omega arith) v u
  look_more n o true e (no_first u) = first_at n (omega arith) e u
  look_more n o false e (no_first u) = no_first below
    where
      below : (i : ℕ) → i < suc n → test i ≡ false
      below i l = elim (cases_order i n) [ inl s ↦ subst (λ k. test k ≡ false) (sym s) e | inr s ↦ u i (omega arith) ]

  pub look : (n : ℕ) → Look test n (first test n)
  look zero = no_first (λ i l. absurd (not-suc-le-zero l))
  look (suc n) = look_more n (first test n) (test n) refl (look n)

  -- it has one answer
  pub look_one : (n : ℕ) (o q : Option ℕ) → Look test n o → Look test n q → o ≡ q
  look_one n o q (first_at j l v u) (first_at k m w z) = elim (cases_order j k) [
    | inl s ↦ ap Some s
    | inr s ↦ elim s [ inl b ↦ absurd (both_ways _ (z j b) v) | inr b ↦ absurd (both_ways _ (u k b) w) ]
  ]
  look_one n o q (first_at j l v u) (no_first z) = absurd (both_ways _ (z j l) v)
  look_one n o q (no_first u) (first_at k m w z) = absurd (both_ways _ (u k m) w)
  look_one n o q (no_first u) (no_first z) = refl

-- one more to a number, if there is one
abbrev pub one_on : Option ℕ → Option ℕ
one_on (Some k) = Some (suc k)
one_on None = None

look_on : (test : ℕ → Bool) (n : ℕ) (o : Option ℕ) → test 0 ≡ false → Look (λ i. test (suc i)) n o → Look test (suc n) (one_on o)
look_on test n o z (first_at j l v u) = first_at (suc j) (omega arith) v below
  where
    below : (i : ℕ) → i < suc j → test i ≡ false
    below zero b = z
    below (suc i) b = u i (omega arith)
look_on test n o z (no_first u) = no_first below
  where
    below : (i : ℕ) → i < suc n → test i ≡ false
    below zero b = z
    below (suc i) b = u i (omega arith)

-- ---- successors

-- how far the successor lies: at the first sighting, else at the end of a live jump
abbrev pub lead : Option ℕ → ℕ × Bool → Option ℕ
lead o j = elim o [ Some k ↦ Some (suc k) | None ↦ cond j.1 (Some j.0) None ]

lead_on : (o : Option ℕ) (n : ℕ) (live : Bool) → lead (one_on o) (suc n, live) ≡ one_on (lead o (n, live))
lead_on (Some k) n live = refl
lead_on None n true = refl
lead_on None n false = refl

module _ (p : Plan) (t : Point) (h : Heading) (x : Point) where
  -- whether the target is sighted after i + 1 steps
  abbrev pub seen : ℕ → Bool
  seen i = sights t h (walk h (suc i) x)

  pub successor_by : (o : Option ℕ) (j : ℕ × Bool) → jump_from p x h ≡ j → Look seen j.0 o → successor p t x h ≡ lead o j
  successor_by o j e l =
      ap (λ (k : ℕ × Bool). lead (first seen k.0) k) e ∙ ap (λ q. lead q j) (look_one seen j.0 _ o (look seen j.0) l)

  -- the target sighted by the first step
  pub successor_sighted : (n : ℕ) (live : Bool) → jump_from p x h ≡ (suc n, live) → sights t h (step h x) ≡ true → successor p t x h ≡ Some 1
  successor_sighted n live e v = successor_by (Some 0) (suc n, live) e (first_at 0 (omega arith) v (λ i l. absurd (not-suc-le-zero l)))

  -- a jump of one step, live
  pub successor_landed : jump_from p x h ≡ (1, true) → sights t h (step h x) ≡ false → successor p t x h ≡ Some 1
  successor_landed e v = successor_by None (1, true) e (no_first only)
    where
      only : (i : ℕ) → i < 1 → seen i ≡ false
      only zero l = v
      only (suc i) l = absurd (omega arith)

  -- a step that neither sights the target nor ends the jump
  pub successor_on : jump_from p x h ≡ (suc (jump_from p (step h x) h).0, (jump_from p (step h x) h).1) → sights t h (step h x) ≡ false →
      successor p t x h ≡ one_on (successor p t (step h x) h)
  successor_on e v =
      let n : ℕ = (jump_from p (step h x) h).0 in
      let later : ℕ → Bool = λ i. seen (suc i) in
      successor_by (one_on (first later n)) (suc n, (jump_from p (step h x) h).1) e (look_on seen n (first later n) v (look later n)) ∙
      lead_on (first later n) n (jump_from p (step h x) h).1
