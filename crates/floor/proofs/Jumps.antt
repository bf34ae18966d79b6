-- Every jump has one answer. A run of legal steps ends, since each leaves less room ahead; so a scan can be unrolled step by step without end,
-- and what it finds is the only run there is.
use Rattle.std.proofs.Common.{◌≡◌, ℕ, zero, suc, ◌+◌, ◌-◌, ◌<◌, ◌≤◌, Bool, true, false, cond, ◌||◌, pos, nat_abs, ◌≤ℤ◌, ◌<ℤ◌, Some, None, Option, sym, refl, ap, ◌∙◌, subst, inl, inr, true≢false, arith}
use mathlib.Core.Bool.{false≢true}
use borrow.Author.Differences.{ints}
use Rattle.std.proofs.lemmas.Bool.{cases_Bool, cases_order, or_cases, or_left, or_right, both_ways}
use Rattle.floor.specs.declared.Cell.{Cell}
use Rattle.floor.specs.declared.Heading.{Heading}
use Rattle.floor.specs.declared.Heading.TheVariants.{North, NorthEast, East, SouthEast, South, SouthWest, West, NorthWest}
use Rattle.floor.specs.declared.Side.{Side}
use Rattle.floor.specs.declared.Side.TheVariants.{Left, Right}
use Rattle.floor.specs.Plane.{Point, point, number, heading, turn, diagonal, step}
use Rattle.floor.specs.Plans.{Plan, Sized, opens, legal}
use Rattle.floor.specs.Jumps.{walk, stops, Run, StraightJump, DiagonalJump, Jump, scan, straight_jump, jump_from, jump_of}
use Rattle.floor.proofs.Numbers.{numbered}
use Rattle.floor.proofs.Cells.{found}
use Rattle.floor.proofs.Legal.{legal_parts}

-- no step from a closed cell is legal
pub closed_stays : (free : Point → Bool) (x : Point) (h : Heading) → free x ≡ false → legal free x h ≡ false
closed_stays free x h e = elim (cases_Bool (legal free x h)) [ inl l ↦ absurd (both_ways _ e (legal_parts free x h l).here) | inr l ↦ l ]

-- ---- room ahead

pub record Inside (p : Plan) (x : Point) : Type 0 where
  pub top : pos 0 ≤ℤ x.row
  pub bottom : x.row <ℤ pos p.rows
  pub west : pos 0 ≤ℤ x.col
  pub east : x.col <ℤ pos p.cols

-- every open cell lies inside
pub open_inside : (p : Plan) (x : Point) → opens p x ≡ true → Inside p x
open_inside p x o =
    let c = found p x o in
    let rows = c.in_rows in
    let cols = c.in_cols in
    subst (Inside p) c.is_cell (record { top = omega (arith, ints); bottom = omega (arith, ints); west = omega (arith, ints); east = omega (arith, ints) })

-- how many steps of a heading stay inside
unfoldable ahead : Plan → Heading → Point → ℕ
ahead p North x = nat_abs x.row
ahead p NorthEast x = nat_abs x.row
ahead p East x = p.cols - suc (nat_abs x.col)
ahead p SouthEast x = p.rows - suc (nat_abs x.row)
ahead p South x = p.rows - suc (nat_abs x.row)
ahead p SouthWest x = p.rows - suc (nat_abs x.row)
ahead p West x = nat_abs x.col
ahead p NorthWest x = nat_abs x.row

ahead_falls : (p : Plan) (x : Point) (h : Heading) → Inside p x → Inside p (step h x) → ahead p h (step h x) < ahead p h x
unfolding ahead step
ahead_falls p x North i j = omega (arith, ints)
ahead_falls p x NorthEast i j = omega (arith, ints)
ahead_falls p x East i j = omega (arith, ints)
ahead_falls p x SouthEast i j = omega (arith, ints)
ahead_falls p x South i j = omega (arith, ints)
ahead_falls p x SouthWest i j = omega (arith, ints)
ahead_falls p x West i j = omega (arith, ints)
ahead_falls p x NorthWest i j = omega (arith, ints)

ahead_fits : (p : Plan) (x : Point) (n : ℕ) → p.rows ≤ suc n → p.cols ≤ suc n → (h : Heading) → Inside p x → ahead p h x ≤ n
unfolding ahead
ahead_fits p x n r c North i = omega (arith, ints)
ahead_fits p x n r c NorthEast i = omega (arith, ints)
ahead_fits p x n r c East i = omega (arith, ints)
ahead_fits p x n r c SouthEast i = omega (arith, ints)
ahead_fits p x n r c South i = omega (arith, ints)
ahead_fits p x n r c SouthWest i = omega (arith, ints)
ahead_fits p x n r c West i = omega (arith, ints)
ahead_fits p x n r c NorthWest i = omega (arith, ints)

-- the same, and none from a closed cell
pub room : Plan → Heading → Point → ℕ
room p h x = cond (opens p x) (ahead p h x) 0

-- each legal step leaves less room
pub room_falls : (p : Plan) (h : Heading) (x : Point) → legal (opens p) x h ≡ true → room p h (step h x) < room p h x
unfolding room
room_falls p h x l =
    let both = legal_parts (opens p) x h l in
    rw (both.here, both.there) (ahead_falls p x h (open_inside p x both.here) (open_inside p (step h x) both.there))

pub room_fits : (p : Plan) (n : ℕ) → p.rows ≤ suc n → p.cols ≤ suc n → (h : Heading) (x : Point) → room p h x ≤ n
unfolding room
room_fits p n r c h x = elim (cases_Bool (opens p x)) [ inl o ↦ rw o (ahead_fits p x n r c h (open_inside p x o)) | inr o ↦ rw o (omega arith) ]

-- ---- scans

-- what a scan gives at x, from what it gives at the next cell
abbrev pub one_more : Bool → Bool → ℕ × Bool → ℕ × Bool
one_more may marked next = cond may (cond marked (1, true) (suc next.0, next.1)) (0, false)

module _ (p : Plan) (mark : Point → Bool) (h : Heading) where
  -- how far a scan may look does not matter once there is no more room
  scan_bound : (m n : ℕ) (x : Point) → room p h x ≤ m → room p h x ≤ n → scan (opens p) mark h m x ≡ scan (opens p) mark h n x
  unfolding scan
  scan_bound zero zero x i j = refl
  scan_bound zero (suc n) x i j = elim (cases_Bool (legal (opens p) x h)) [
    | inl l ↦ absurd (omega (arith, room_falls p h x l))
    | inr l ↦ sym (ap (λ b. one_more b (mark x) (scan (opens p) mark h n (step h x))) l)
  ]
  scan_bound (suc m) zero x i j = elim (cases_Bool (legal (opens p) x h)) [
    | inl l ↦ absurd (omega (arith, room_falls p h x l))
    | inr l ↦ ap (λ b. one_more b (mark x) (scan (opens p) mark h m (step h x))) l
  ]
  scan_bound (suc m) (suc n) x i j = elim (cases_Bool (legal (opens p) x h)) [
    | inl l ↦ ap (one_more (legal (opens p) x h) (mark x)) (scan_bound m n (step h x) (omega (arith, room_falls p h x l)) (omega (arith, room_falls p h x l)))
    | inr l ↦ ap (λ b. one_more b (mark x) (scan (opens p) mark h m (step h x))) l ∙ sym (ap (λ b. one_more b (mark x) (scan (opens p) mark h n (step h x))) l)
  ]

  -- a scan over the whole plan
  abbrev pub scanned : Point → ℕ × Bool
  scanned x = scan (opens p) mark h (p.rows + p.cols) x

  -- A scan by the scan from the next cell: what a loop or a table computes.
  pub unrolls : (x : Point) → scanned x ≡ one_more (legal (opens p) x h) (mark x) (scanned (step h x))
  unfolding scan
  unrolls x =
      let fits : room p h x ≤ p.rows + p.cols = room_fits p (p.rows + p.cols) (omega arith) (omega arith) h x in
      scan_bound (p.rows + p.cols) (suc (p.rows + p.cols)) x fits (omega arith)

  -- the three ways that a scan can go
  pub scan_blocked : (x : Point) → legal (opens p) x h ≡ false → scanned x ≡ (0, false)
  scan_blocked x l = unrolls x ∙ ap (λ b. one_more b (mark x) (scanned (step h x))) l

  pub scan_found : (x : Point) → legal (opens p) x h ≡ true → mark x ≡ true → scanned x ≡ (1, true)
  scan_found x l m = unrolls x ∙ ap (λ b. one_more b (mark x) (scanned (step h x))) l ∙ ap (λ b. one_more true b (scanned (step h x))) m

  pub scan_further : (x : Point) → legal (opens p) x h ≡ true → mark x ≡ false → scanned x ≡ (suc (scanned (step h x)).0, (scanned (step h x)).1)
  scan_further x l m = unrolls x ∙ ap (λ b. one_more b (mark x) (scanned (step h x))) l ∙ ap (λ b. one_more true b (scanned (step h x))) m

  -- a scan stays where there is room
  pub scan_fits : (n : ℕ) (x : Point) → (scan (opens p) mark h n x).0 ≤ room p h x
  unfolding scan
  scan_fits zero x = omega arith
  scan_fits (suc n) x = elim (cases_Bool (legal (opens p) x h)) [
    | inr l ↦ rw l (omega arith)
    | inl l ↦ rw l
        (elim (cases_Bool (mark x)) [
          | inl m ↦ rw m (omega (arith, room_falls p h x l))
          | inr m ↦ rw m (omega (arith, room_falls p h x l, scan_fits n (step h x)))
        ])
  ]

-- ---- runs

module _ (free : Point → Bool) (Mark : Point → Type 0) (h : Heading) where
  run_blocked : (x : Point) → legal free x h ≡ false → Run free Mark h x 0 false
  run_blocked x l = record {
    legals = λ i b. absurd (omega arith);
    before = λ i b. absurd (omega arith);
    at_mark = λ e. absurd (false≢true e);
    no_mark = λ e i k. absurd (omega arith);
    blocked = λ e. l;
  }

  run_found : (x : Point) → legal free x h ≡ true → Mark x → Run free Mark h x 1 true
  run_found x l m = record {
    legals = only;
    before = λ i b. absurd (omega arith);
    at_mark = λ e. (0, refl, m);
    no_mark = λ e. absurd (true≢false e);
    blocked = λ e. absurd (true≢false e);
  }
    where
      only : (i : ℕ) → i < 1 → legal free (walk h i x) h ≡ true
      only zero b = l
      only (suc i) b = absurd (omega arith)

  run_further : (x : Point) (k : ℕ) (live : Bool) → legal free x h ≡ true → (Mark x → ⊥) → Run free Mark h (step h x) k live → Run free Mark h x (suc k) live
  run_further x k live l m r = record {
    legals = legals;
    before = before;
    at_mark = λ e. let t = r.at_mark e in (suc t.0, omega (arith, t.1), t.2);
    no_mark = no_mark;
    blocked = r.blocked;
  }
    where
      legals : (i : ℕ) → i < suc k → legal free (walk h i x) h ≡ true
      legals zero b = l
      legals (suc i) b = r.legals i (omega arith)

      before : (i : ℕ) → i + 1 < suc k → Mark (walk h i x) → ⊥
      before zero b = m
      before (suc i) b = r.before i (omega arith)

      no_mark : live ≡ false → (i : ℕ) → suc k ≡ i + 1 → Mark (walk h i x) → ⊥
      no_mark e zero b = m
      no_mark e (suc i) b = r.no_mark e i (omega arith)

  -- no run is longer than another: it would go on past a mark, or past a step that is not legal
  run_longer : (x : Point) (k k' : ℕ) (live live' : Bool) → Run free Mark h x k live → Run free Mark h x k' live' → k < k' → ⊥
  run_longer x k k' live live' r r' b = elim (cases_Bool live) [
    | inl e ↦ let t = r.at_mark e in r'.before t.0 (omega (arith, t.1)) t.2
    | inr e ↦ both_ways _ (r.blocked e) (r'.legals k b)
  ]

  run_dead : (x : Point) (k k' : ℕ) → k ≡ k' → Run free Mark h x k true → Run free Mark h x k' false → ⊥
  run_dead x k k' e r r' = let t = r.at_mark refl in r'.no_mark refl t.0 (sym e ∙ t.1) t.2

  run_live : (x : Point) (k k' : ℕ) (live live' : Bool) → k ≡ k' → Run free Mark h x k live → Run free Mark h x k' live' → live ≡ live'
  run_live x k k' true true e r r' = refl
  run_live x k k' false false e r r' = refl
  run_live x k k' true false e r r' = absurd (run_dead x k k' e r r')
  run_live x k k' false true e r r' = absurd (run_dead x k' k (sym e) r' r)

  pub run_one : (x : Point) (k k' : ℕ) (live live' : Bool) → Run free Mark h x k live → Run free Mark h x k' live' → (k ≡ k') × (live ≡ live')
  run_one x k k' live live' r r' =
      let same : k ≡ k' = elim (cases_order k k') [
        | inl e ↦ e
        | inr o ↦ elim o [ inl b ↦ absurd (run_longer x k k' live live' r r' b) | inr b ↦ absurd (run_longer x k' k live' live r' r b) ]
      ] in
      (same, run_live x k k' live live' same r r')

-- a scan finds a run
scan_runs : (p : Plan) (Mark : Point → Type 0) (mark : Point → Bool) (h : Heading) →
    ((x : Point) → mark x ≡ true → Mark x) → ((x : Point) → Mark x → mark x ≡ true) → (n : ℕ) (x : Point) → room p h x ≤ n →
    Run (opens p) Mark h x (scan (opens p) mark h n x).0 (scan (opens p) mark h n x).1
unfolding scan
scan_runs p Mark mark h yes-mark is-mark zero x i = elim (cases_Bool (legal (opens p) x h)) [
  | inl l ↦ absurd (omega (arith, room_falls p h x l))
  | inr l ↦ run_blocked (opens p) Mark h x l
]
scan_runs p Mark mark h yes-mark is-mark (suc n) x i = elim (cases_Bool (legal (opens p) x h)) [
  | inr l ↦ rw l (run_blocked (opens p) Mark h x l)
  | inl l ↦ rw l
      (elim (cases_Bool (mark x)) [
        | inl m ↦ rw m (run_found (opens p) Mark h x l (yes-mark x m))
        | inr m ↦ rw m
            (run_further (opens p) Mark h x _ _ l (λ t. both_ways _ m (is-mark x t))
            (scan_runs p Mark mark h yes-mark is-mark n (step h x) (omega (arith, room_falls p h x l))))
      ])
]

-- ---- jumps

module _ (p : Plan) where
  -- the mark of a straight jump, and of a diagonal one, in the scans that compute them
  abbrev pub straight_mark : Heading → Point → Bool
  straight_mark h y = stops (opens p) y h

  abbrev pub diagonal_mark : Heading → Point → Bool
  diagonal_mark h y = (straight_jump (opens p) (p.rows + p.cols) (turn Left h) (step h y)).1 || (straight_jump (opens p) (p.rows + p.cols) (turn Right h) (step h y)).1

  jump_fits : (h : Heading) (x : Point) → room p h x ≤ p.rows + p.cols
  jump_fits h x = room_fits p (p.rows + p.cols) (omega arith) (omega arith) h x

  pub straight_is : (h : Heading) (x : Point) → StraightJump (opens p) h x (scanned p (straight_mark h) h x).0 (scanned p (straight_mark h) h x).1
  straight_is h x = scan_runs p (λ y. stops (opens p) y h ≡ true) (straight_mark h) h (λ y e. e) (λ y e. e) (p.rows + p.cols) x (jump_fits h x)

  pub straight_one : (h : Heading) (x : Point) (k : ℕ) (live : Bool) → StraightJump (opens p) h x k live → (k ≡ (scanned p (straight_mark h) h x).0) × (live ≡ (scanned p (straight_mark h) h x).1)
  straight_one h x k live j = run_one (opens p) (λ y. stops (opens p) y h ≡ true) h x k _ live _ j (straight_is h x)

  -- a straight jump beside is live
  abbrev Beside : Heading → Point → Type 0
  Beside h y = (s : Side) × (k : ℕ) × StraightJump (opens p) (turn s h) (step h y) k true

  beside_live : (h : Heading) (y : Point) (s : Side) → (scanned p (straight_mark (turn s h)) (turn s h) (step h y)).1 ≡ true → Beside h y
  beside_live h y s e = (s, _, subst (StraightJump (opens p) (turn s h) (step h y) _) e (straight_is (turn s h) (step h y)))

  beside_is : (h : Heading) (y : Point) → diagonal_mark h y ≡ true → Beside h y
  beside_is h y e = elim (or_cases _ _ e) [ inl l ↦ beside_live h y Left l | inr l ↦ beside_live h y Right l ]

  is_beside : (h : Heading) (y : Point) → Beside h y → diagonal_mark h y ≡ true
  is_beside h y (Left, k, j) = or_left _ _ (sym (straight_one (turn Left h) (step h y) k true j).1)
  is_beside h y (Right, k, j) = or_right _ _ (sym (straight_one (turn Right h) (step h y) k true j).1)

  pub diagonal_is : (h : Heading) (x : Point) → DiagonalJump (opens p) h x (scanned p (diagonal_mark h) h x).0 (scanned p (diagonal_mark h) h x).1
  diagonal_is h x = scan_runs p (Beside h) (diagonal_mark h) h (beside_is h) (is_beside h) (p.rows + p.cols) x (jump_fits h x)

  -- a jump is a straight one or a diagonal one
  pub jump_straight : (x : Point) (h : Heading) → diagonal h ≡ false → jump_from p x h ≡ scanned p (straight_mark h) h x
  jump_straight x h d = ap (λ b. cond b (scanned p (diagonal_mark h) h x) (scanned p (straight_mark h) h x)) d

  pub jump_diagonal : (x : Point) (h : Heading) → diagonal h ≡ true → jump_from p x h ≡ scanned p (diagonal_mark h) h x
  jump_diagonal x h d = ap (λ b. cond b (scanned p (diagonal_mark h) h x) (scanned p (straight_mark h) h x)) d

  pub jump_is : (x : Point) (h : Heading) → Jump (opens p) h x (jump_from p x h).0 (jump_from p x h).1
  jump_is x h = record {
    straight = λ d. subst (λ (j : ℕ × Bool). StraightJump (opens p) h x j.0 j.1) (sym (jump_straight x h d)) (straight_is h x);
    slanted = λ d. subst (λ (j : ℕ × Bool). DiagonalJump (opens p) h x j.0 j.1) (sym (jump_diagonal x h d)) (diagonal_is h x);
  }

  pub jump_one : (x : Point) (h : Heading) (k : ℕ) (live : Bool) → Jump (opens p) h x k live → (k ≡ (jump_from p x h).0) × (live ≡ (jump_from p x h).1)
  jump_one x h k live j = elim (cases_Bool (diagonal h)) [
    | inl d ↦ run_one (opens p) (Beside h) h x k _ live _ (j.slanted d) ((jump_is x h).slanted d)
    | inr d ↦ run_one (opens p) (λ y. stops (opens p) y h ≡ true) h x k _ live _ (j.straight d) ((jump_is x h).straight d)
  ]

  -- no step is legal from a closed cell, so its jump has none
  pub jump_blocked : (x : Point) (h : Heading) → opens p x ≡ false → jump_from p x h ≡ (0, false)
  jump_blocked x h e = elim (cases_Bool (diagonal h)) [
    | inl d ↦ jump_diagonal x h d ∙ scan_blocked p (diagonal_mark h) h x (closed_stays (opens p) x h e)
    | inr d ↦ jump_straight x h d ∙ scan_blocked p (straight_mark h) h x (closed_stays (opens p) x h e)
  ]

  pub jump_legal : (x : Point) (h : Heading) (i : ℕ) → i < (jump_from p x h).0 → legal (opens p) (walk h i x) h ≡ true
  jump_legal x h i b = elim (cases_Bool (diagonal h)) [ inl d ↦ ((jump_is x h).slanted d).legals i b | inr d ↦ ((jump_is x h).straight d).legals i b ]

  -- fewer steps than there are rows or than there are columns
  pub jump_short : (n : ℕ) → p.rows ≤ suc n → p.cols ≤ suc n → (x : Point) (h : Heading) → (jump_from p x h).0 ≤ n
  jump_short n r c x h = elim (cases_Bool (diagonal h)) [
    | inl d ↦ omega (arith, ap (λ (j : ℕ × Bool). j.0) (jump_diagonal x h d), scan_fits p (diagonal_mark h) h (p.rows + p.cols) x, room_fits p n r c h x)
    | inr d ↦ omega (arith, ap (λ (j : ℕ × Bool). j.0) (jump_straight x h d), scan_fits p (straight_mark h) h (p.rows + p.cols) x, room_fits p n r c h x)
  ]

-- the jump of a heading's number is the heading's
pub jump_numbered : (p : Plan) (c : Cell) (h : Heading) → jump_of p c (number h) ≡ jump_from p (point c) h
jump_numbered p c h = ap (λ o. elim o as (λ _. ℕ × Bool) [ Some g ↦ jump_from p (point c) g | None ↦ (0, false) ]) (numbered h)

-- the same of every cell and every heading's number, those of no heading too
pub numbered_short : (p : Plan) → Sized p → (c : Cell) (n : ℕ) → (jump_of p c n).0 < 128
numbered_short p s c n = at (heading n)
  where
    at : (o : Option Heading) → (elim o as (λ _. ℕ × Bool) [ Some h ↦ jump_from p (point c) h | None ↦ (0, false) ]).0 < 128
    at (Some h) = omega (arith, jump_short p 127 (omega (arith, s.few_rows)) (omega (arith, s.few_cols)) (point c) h)
    at None = omega arith
