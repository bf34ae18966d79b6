-- What the source's jump and the first sighting tell together: where the successor lies, and that a cell of the machine can hold it.
use Rattle.std.proofs.Common.{◌≡◌, ℕ, zero, suc, ◌^◌, ◌<◌, Bool, true, leb, Some, None, Option, sym, ap, ◌∙◌, subst, inl, inr, not-suc-le-zero, arith}
use Rattle.std.proofs.lemmas.Bool.{cases_Bool, and_parts, cond-true, cond-false, leb-true, leb-false}
use Rattle.floor.specs.declared.Cell.{Cell}
use Rattle.floor.specs.declared.Heading.{Heading}
use Rattle.floor.specs.Tally.{steps}
use Rattle.floor.specs.Plane.{Point, point, number}
use Rattle.floor.specs.Plans.{Plan, Sized, inside, opens, is_open}
use Rattle.floor.specs.Jumps.{walk, jump_from, jump_of}
use Rattle.floor.specs.Places.{many, successor}
use Rattle.floor.proofs.Cells.{Found, found}
use Rattle.floor.proofs.Walks.{many_steps}
use Rattle.floor.proofs.Jumps.{jump_numbered}
use Rattle.pruning.specs.Successors.{Lands, Sighted, far_of}
use Rattle.pruning.specs.Claims.{LegalLeap}
use Rattle.pruning.specs.declared.successors.Leap.{Leap}
use Rattle.pruning.proofs.Sightings.{first_at, no_first, successor_by}
use Rattle.pruning.proofs.Sound.{leap_is, leap_open}

module _ (p : Plan) (t x : Point) (h : Heading) where
  -- a first sighting that the jump gets to, or one that it does not
  far_by : (o : Option ℕ) → Sighted t h x o → (n : ℕ) (live : Bool) → jump_from p x h ≡ (n, live) → successor p t x h ≡ far_of o n live
  far_by (Some zero) s n live e = absurd (not-suc-le-zero s.0)
  far_by (Some (suc k)) s n live e = elim (cases_Bool (leb (suc k) n)) [
    | inl l ↦ successor_by p t h x (Some k) (n, live) e (first_at k (leb-true _ _ l) s.1 (λ i b. s.2 (suc i) (omega arith) (omega arith))) ∙ sym (cond-true (leb (suc k) n) _ _ l)
    | inr l ↦ successor_by p t h x None (n, live) e (no_first (λ i b. s.2 (suc i) (omega arith) (omega (arith, leb-false _ _ l)))) ∙ sym (cond-false (leb (suc k) n) _ _ l)
  ]
  far_by None s n live e = successor_by p t h x None (n, live) e (no_first (λ i b. s (suc i) (omega arith)))

-- the same by what the source answers
pub led : (p : Plan) (c t : Cell) (h : Heading) (n : ℕ) (j : ℕ × Bool) (k : ℕ) (o r : Option ℕ) → n ≡ number h → j ≡ jump_of p c n → k ≡ j.0 → Sighted (point t) h (point c) o →
    r ≡ far_of o k j.1 → successor p (point t) (point c) h ≡ r
led p c t h n j k o r a b d s e =
    far_by p (point t) (point c) h o s j.0 j.1 (sym (jump_numbered p c h) ∙ ap (jump_of p c) (sym a) ∙ sym b) ∙
    ap (λ m. far_of o m j.1) (sym d) ∙ sym e

-- a successor lies on a cell of the machine
pub held : (p : Plan) → Sized p → (t x : Point) (h : Heading) (k : ℕ) → successor p t x h ≡ Some k → (a : Cell) × (a.row < 2 ^ 64) × (a.col < 2 ^ 64) × (point a ≡ walk h k x)
held p s t x h k e =
    let a : Found p (walk h k x) = found p (walk h k x) (leap_open p t x h k e) in
    (a.cell, omega (arith, a.in_rows, s.few_rows), omega (arith, a.in_cols, s.few_cols), a.is_cell)

-- and so does the leap that leads there
pub lands : (p : Plan) → Sized p → (t x : Point) (h : Heading) (k : ℕ) (l : Leap) → successor p t x h ≡ Some k → point l.cell ≡ walk h k x → l.counts ≡ many h k → Lands p (Some l)
lands p s t x h k l e at n =
    let f : LegalLeap p x h k = leap_is p t x h k e in
    let free : is_open p l.cell ≡ true = subst (λ y. opens p y ≡ true) (sym at) (leap_open p t x h k e) in
    let c : steps l.counts ≡ k = ap steps n ∙ many_steps h k in
    ((and_parts (inside p l.cell) _ free).0, free, omega (arith, f.some), omega (arith, f.short s))
