-- The way back: every step of a jump is legal, so a chain of successors is a legal route.
use Rattle.std.proofs.Common.{◌≡◌, ℕ, zero, suc, ◌<◌, ◌≤◌, Bool, true, [], replicate, Some, None, Option, sym, refl, ◌∙◌, subst, inl, inr, arith}
use Rattle.std.proofs.lemmas.Bool.{cases_Bool, and_parts, cond-true, cond-false}
use Rattle.floor.specs.declared.Counts.{Counts}
use Rattle.floor.specs.declared.Heading.{Heading}
use Rattle.floor.specs.Plane.{Point, diagonal, step}
use Rattle.floor.specs.Plans.{Plan, inside, opens, is_open, legal}
use Rattle.floor.specs.Routes.{end, Walk, Laid}
use Rattle.floor.specs.Jumps.{walk, jump_from}
use Rattle.floor.specs.Places.{Position, place, spot, first, successor, Chain, begin, leap}
use Rattle.floor.proofs.Legal.{legal_parts, legal_fair}
use Rattle.floor.proofs.Walks.{many_steps, joined, turned_round}
use Rattle.floor.proofs.Runs.{tally_run}
use Rattle.floor.proofs.Jumps.{jump_is, jump_legal, jump_short}
use Rattle.floor.proofs.Cells.{Found, found}
use Rattle.pruning.specs.Claims.{LegalLeap, Stands}
use Rattle.pruning.proofs.Sightings.{Look, first_at, no_first, look, lead, seen}

pub run_end : (h : Heading) (k : ℕ) (x : Point) → end x (replicate k h) ≡ walk h k x
run_end h zero x = refl
run_end h (suc k) x = run_end h k (step h x)

pub run_walks : (free : Point → Bool) (h : Heading) (k : ℕ) (x : Point) → ((i : ℕ) → i < k → legal free (walk h i x) h ≡ true) → Walk legal free x (replicate k h)
run_walks free h zero x l = tt
run_walks free h (suc k) x l = (l 0 (omega arith), run_walks free h k (step h x) (λ i b. l (suc i) (omega arith)))

module _ (p : Plan) where
  -- a live jump has a step
  live_some : (x : Point) (h : Heading) → (jump_from p x h).1 ≡ true → 1 ≤ (jump_from p x h).0
  live_some x h e = elim (cases_Bool (diagonal h)) [
    | inl d ↦ omega (arith, (((jump_is p x h).slanted d).at_mark e).1)
    | inr d ↦ omega (arith, (((jump_is p x h).straight d).at_mark e).1)
  ]

  module _ (t x : Point) (h : Heading) where
    -- how far a successor lies
    far : (k : ℕ) (o : Option ℕ) → Look (seen p t h x) (jump_from p x h).0 o → lead o (jump_from p x h) ≡ Some k → (1 ≤ k) × (k ≤ (jump_from p x h).0)
    far k o (first_at j l v u) e = let s : suc j ≡ k = cc in (omega arith, omega arith)
    far k o (no_first u) e = elim (cases_Bool (jump_from p x h).1) [
      | inl v ↦ let q : Some (jump_from p x h).0 ≡ Some k = sym (cond-true (jump_from p x h).1 _ _ v) ∙ e in
          let s : (jump_from p x h).0 ≡ k = cc in (omega (arith, live_some x h v), omega arith)
      | inr v ↦ let q : None ≡ Some k = sym (cond-false (jump_from p x h).1 _ _ v) ∙ e in
          let z : ◌≡◌ {A = ℕ} 0 1 = cc in absurd (omega arith)
    ]

    pub leap_is : (k : ℕ) → successor p t x h ≡ Some k → LegalLeap p x h k
    leap_is k e =
        let f : (1 ≤ k) × (k ≤ (jump_from p x h).0) = far k (first (seen p t h x) (jump_from p x h).0) (look (seen p t h x) (jump_from p x h).0) e in
        record {
          some = f.0;
          few = f.1;
          short = λ s. omega (arith, f.1, jump_short p 127 s.few_rows s.few_cols x h);
          route = record {
            headings = replicate k h;
            starts = (legal_parts (opens p) x h (jump_legal p x h 0 (omega (arith, f.0, f.1)))).here;
            walks = run_walks (opens p) h k x (λ i b. jump_legal p x h i (omega (arith, f.1)));
            ends = run_end h k x;
            counted = tally_run h k;
          };
        }

    -- it ends on an open cell
    pub leap_open : (k : ℕ) → successor p t x h ≡ Some k → opens p (walk h k x) ≡ true
    leap_open k e = (turned_round legal (opens p) legal_fair (leap_is k e).route).starts

  module _ (s t : Point) where
    -- Each chain is a legal route with the same counts.
    pub sound : (at : Position) (n : Counts) → opens p s ≡ true → Chain p s t at n → Laid legal (opens p) s (spot at) n
    sound at n o begin = record { headings = []; starts = o; walks = tt; ends = refl; counted = refl }
    sound at n o (leap {at = b} {n = m} c h k g e) = joined legal (opens p) (sound b m o c) (leap_is t (spot b) h k e).route

    pub stands : (x : Point) (h : Heading) (n : Counts) → Chain p s t (place x h) n → Stands p x n
    stands x h n (leap {at = b} {n = m} c g k z e) =
        let f : LegalLeap p (spot b) h k = leap_is t (spot b) h k e in
        let o : opens p x ≡ true = leap_open t (spot b) h k e in
        let a : Found p x = found p x o in
        let free : is_open p a.cell ≡ true = subst (λ y. opens p y ≡ true) (sym a.is_cell) o in
        record {
          cell = a.cell;
          there = a.is_cell;
          within = (and_parts (inside p a.cell) _ free).0;
          is_free = free;
          some = omega (arith, f.some, many_steps h k);
        }
