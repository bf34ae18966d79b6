-- A scan along a line is the straight jump on the plane: position by position the line shows what the cells are, and the first position where
-- the scan ends is the first step that is not legal or leads to a stop. Said once for the four straight headings.
use Rattle.std.proofs.Common.{◌≡◌, ℕ, zero, suc, ◌+◌, ◌-◌, ◌*◌, ◌<◌, ◌≤◌, Bool, true, false, cond, not, ◌&&◌, ◌||◌, ltb, List, ℤ, pos, negsuc, ◌+ℤ◌, sym, refl, ap, ◌∙◌, subst, inl, inr, arith}
use mathlib.Core.Bool.{not-not}
use borrow.Author.Differences.{ints}
use Rattle.std.proofs.Math.Bool.{and_comm, or_comm}
use Rattle.std.proofs.lemmas.Bool.{true≢false, cases_Bool, cases_lt, and_parts, or_parts, or_from, both_ways, not-false, ltb-true, lt-ltb, le-ltb}
use Rattle.floor.specs.declared.Cell.{Cell}
use Rattle.floor.specs.declared.Heading.{Heading}
use Rattle.floor.specs.declared.Heading.TheVariants.{North, NorthEast, East, SouthEast, South, SouthWest, West, NorthWest}
use Rattle.floor.specs.declared.Side.{Side}
use Rattle.floor.specs.declared.Side.TheVariants.{Left, Right}
use Rattle.floor.specs.Plane.{Point, point, turn, diagonal, step}
use Rattle.floor.specs.Plans.{Plan, open_at, opens, is_open, legal}
use Rattle.floor.specs.Jumps.{stop, stops}
use Rattle.floor.proofs.Plane.{other, at}
use Rattle.floor.proofs.Legal.{legal_from}
use Rattle.floor.proofs.Jumps.{scanned, straight_mark, scan_blocked, scan_found, scan_further}
use Rattle.source.specs.Ground.{straight_from}
use Rattle.source.proofs.Walks.{no_end}
use Rattle.packed.specs.declared.words.Way.{Way}
use Rattle.packed.specs.declared.words.Way.TheVariants.{Forward, Backward}
use Rattle.packed.specs.declared.scans.Lines.{Lines}
use Rattle.packed.specs.declared.halves.Half.{Half}
use Rattle.packed.specs.Layout.{line_words, by_rows, by_cols, shut, plan_of, Laid}
use Rattle.packed.specs.Scans.{seen, onward, back, opening, ends, Scanned, line_at, Around, upright, way_of}
use Rattle.packed.proofs.Scanning.{seen_before}

-- ---- lines on the plane

-- the row or column of a position: position 0 lies outside
abbrev pub coordinate : ℕ → ℤ
coordinate zero = negsuc 0
coordinate (suc i) = pos i

-- the point at place i of line l, where lines are columns or rows
abbrev pub spot : Bool → ℤ → ℤ → Point
spot true l i = record { row = i; col = l }
spot false l i = record { row = l; col = i }

still : (z : ℤ) → z +ℤ pos 0 ≡ z
still z = omega (arith, ints)

up : (i : ℕ) → pos i +ℤ pos 1 ≡ pos (suc i)
up i = omega (arith, ints)

down : (i : ℕ) → pos i +ℤ negsuc 0 ≡ coordinate i
down zero = omega (arith, ints)
down (suc i) = omega (arith, ints)

onward_up : (i : ℕ) → pos i +ℤ pos 1 ≡ coordinate (onward Forward (suc i) 1)
onward_up i = let e : suc (suc i) ≡ suc i + 1 = omega arith in up i ∙ ap coordinate e

onward_down : (i : ℕ) → pos i +ℤ negsuc 0 ≡ coordinate (onward Backward (suc i) 1)
onward_down i = let e : i ≡ suc i - 1 = omega arith in down i ∙ ap coordinate e

-- one step along a line
along : (h : Heading) → diagonal h ≡ false → (l : ℤ) (i : ℕ) → step h (spot (upright h) l (pos i)) ≡ spot (upright h) l (coordinate (onward (way_of h) (suc i) 1))
unfolding step
along North d l i = at (onward_down i) (still l)
along East d l i = at (still l) (onward_up i)
along South d l i = at (onward_up i) (still l)
along West d l i = at (still l) (onward_down i)
along NorthEast d l i = absurd (true≢false d)
along SouthEast d l i = absurd (true≢false d)
along SouthWest d l i = absurd (true≢false d)
along NorthWest d l i = absurd (true≢false d)

-- one side of a line is the line before it, and the other the line after it
record Sides (h : Heading) : Type 0 where
  pub side : Side
  pub lower : (l : ℕ) (z : ℤ) → step (turn side (turn side h)) (spot (upright h) (pos l) z) ≡ spot (upright h) (coordinate l) z
  pub upper : (l : ℕ) (z : ℤ) → step (turn (other side) (turn (other side) h)) (spot (upright h) (pos l) z) ≡ spot (upright h) (coordinate (suc (suc l))) z

sides : (h : Heading) → diagonal h ≡ false → Sides h
unfolding step
sides North d = record { side = Left; lower = λ l z. at (still z) (down l); upper = λ l z. at (still z) (up l) }
sides East d = record { side = Left; lower = λ l z. at (down l) (still z); upper = λ l z. at (up l) (still z) }
sides South d = record { side = Right; lower = λ l z. at (still z) (down l); upper = λ l z. at (still z) (up l) }
sides West d = record { side = Right; lower = λ l z. at (down l) (still z); upper = λ l z. at (up l) (still z) }
sides NorthEast d = absurd (true≢false d)
sides SouthEast d = absurd (true≢false d)
sides SouthWest d = absurd (true≢false d)
sides NorthWest d = absurd (true≢false d)

either_order : (free : Point → Bool) (x : Point) (h : Heading) (s : Side) → stops free x h ≡ (stop free x h s || stop free x h (other s))
either_order free x h Left = refl
either_order free x h Right = or_comm (stop free x h Left) (stop free x h Right)

-- ---- steps along a line

-- the position that one comes from, after one step
came_from : (way : Way) (i : ℕ) → back way (onward way (suc i) 1) ≡ suc i
came_from Forward i = omega arith
came_from Backward i = omega arith

-- one step and then k more
one_more_step : (way : Way) (q k : ℕ) → onward way (onward way q 1) k ≡ onward way q (suc k)
one_more_step Forward q k = omega arith
one_more_step Backward q k = omega arith

-- the line shows which cells of row or column m are closed
abbrev Shows : Plan → Bool → ℤ → List ℕ → Type 0
Shows p up m line = (q : ℕ) → seen line q ≡ not (opens p (spot up m (coordinate q)))

module _ (p : Plan) (h : Heading) (d : diagonal h ≡ false) (l : ℕ) where
  -- the cell at place i of the line, and the position of the next
  abbrev cell : ℕ → Point
  cell i = spot (upright h) (pos l) (pos i)

  abbrev next : ℕ → ℕ
  next i = onward (way_of h) (suc i) 1

  -- a step to the side g is a step to another line, which opens up where the step along ours makes a stop
  stop_line : (g : Heading) (m : ℤ) (line : List ℕ) → ((z : ℤ) → step g (spot (upright h) (pos l) z) ≡ spot (upright h) m z) → Shows p (upright h) m line →
      (i : ℕ) → (not (opens p (step g (cell i))) && opens p (step g (step h (cell i)))) ≡ opening line (way_of h) (next i)
  stop_line g m line to shows i =
      let behind : not (opens p (step g (cell i))) ≡ seen line (back (way_of h) (next i)) = ap (λ x. not (opens p x)) (to (pos i)) ∙ sym (shows (suc i)) ∙ ap (seen line) (sym (came_from (way_of h) i)) in
      let there : step g (step h (cell i)) ≡ spot (upright h) m (coordinate (next i)) = ap (step g) (along h d (pos l) i) ∙ to (coordinate (next i)) in
      let ahead : opens p (step g (step h (cell i))) ≡ not (seen line (next i)) = ap (opens p) there ∙ sym (ap not (shows (next i)) ∙ not-not _) in
      λ t. behind t && ahead t

  module _ (lines : Lines) (before : Shows p (upright h) (coordinate l) lines.before) (here : Shows p (upright h) (pos l) lines.here) (after : Shows p (upright h) (coordinate (suc (suc l))) lines.after) where
    stops_lines : (i : ℕ) → stops (opens p) (cell i) h ≡ (opening lines.before (way_of h) (next i) || opening lines.after (way_of h) (next i))
    unfolding stop
    stops_lines i =
        let beside = sides h d in
        let s = beside.side in
        either_order (opens p) (cell i) h s ∙
        (λ t.
        stop_line (turn s (turn s h)) (coordinate l) lines.before (beside.lower l) before i t ||
        stop_line (turn (other s) (turn (other s) h)) (coordinate (suc (suc l))) lines.after (beside.upper l) after i t)

    step_open : (i : ℕ) → opens p (step h (cell i)) ≡ not (seen lines.here (next i))
    step_open i = ap (opens p) (along h d (pos l) i) ∙ sym (ap not (here (next i)) ∙ not-not _)

    step_legal : (i : ℕ) → seen lines.here (suc i) ≡ false → seen lines.here (next i) ≡ false → legal (opens p) (cell i) h ≡ true
    step_legal i free free' = legal_from (opens p) (cell i) h (record {
      here = not-false _ (sym (here (suc i)) ∙ free);
      there = step_open i ∙ ap not free';
      sides = λ e. absurd (both_ways _ d e);
    })

    step_blocked : (i : ℕ) → seen lines.here (next i) ≡ true → legal (opens p) (cell i) h ≡ false
    step_blocked i wall = no_end p (cell i) h (step_open i ∙ ap not wall)

    abbrev answer : ℕ → ℕ → ℕ × Bool
    answer q k = cond (seen lines.here (onward (way_of h) q (suc k))) (k, false) (suc k, true)

    -- the first position where the scan ends is where the jump ends
    first_end : (k q : ℕ) → seen lines.here q ≡ false → ((i : ℕ) → i < k → ends lines (way_of h) (onward (way_of h) q (suc i)) ≡ false) → ends lines (way_of h) (onward (way_of h) q (suc k)) ≡ true →
        answer q k ≡ scanned p (straight_mark p h) h (spot (upright h) (pos l) (coordinate q))
    first_end k zero free none there = absurd (both_ways _ free (seen_before lines.here))
    first_end zero (suc i) free none there = elim (cases_Bool (seen lines.here (next i))) [
      | inl wall ↦ ap (λ t. cond t (0, false) (1, true)) wall ∙ sym (scan_blocked p (straight_mark p h) h (cell i) (step_blocked i wall))
      | inr free' ↦
          let opening-up : stops (opens p) (cell i) h ≡ true = stops_lines i ∙ rest _ _ _ free' there in
          ap (λ t. cond t (0, false) (1, true)) free' ∙ sym (scan_found p (straight_mark p h) h (cell i) (step_legal i free free') opening-up)
    ]
      where
        rest : (a b c : Bool) → a ≡ false → ((a || b) || c) ≡ true → (b || c) ≡ true
        rest true b c e t = absurd (true≢false e)
        rest false b c e t = t
    first_end (suc k) (suc i) free none there =
        let on = or_parts _ _ (none 0 (omega arith)) in
        let on' = or_parts _ _ on.0 in
        let no_stop : stops (opens p) (cell i) h ≡ false = stops_lines i ∙ or_from _ _ on'.1 on.1 in
        let further = scan_further p (straight_mark p h) h (cell i) (step_legal i free on'.0) no_stop in
        let step-on = one_more_step (way_of h) (suc i) in
        let rest : answer (next i) k ≡ scanned p (straight_mark p h) h (step h (cell i)) =
        first_end k (next i) on'.0 (λ j b. ap (ends lines (way_of h)) (step-on (suc j)) ∙ none (suc j) (omega arith)) (ap (ends lines (way_of h)) (step-on (suc k)) ∙ there) ∙
        ap (scanned p (straight_mark p h) h) (sym (along h d (pos l) i)) in
        ap (λ q. cond (seen lines.here q) (suc k, false) (suc (suc k), true)) (sym (step-on (suc k))) ∙
        more (seen lines.here (onward (way_of h) (next i) (suc k))) ∙ (λ t. (suc (rest t).0, (rest t).1)) ∙ sym further
      where
        taken_one : ℕ × Bool → ℕ × Bool
        taken_one a = (suc a.0, a.1)

        more : (b : Bool) → ◌≡◌ {A = ℕ × Bool} (cond b (suc k, false) (suc (suc k), true)) (taken_one (cond b (k, false) (suc k, true)))
        more true = refl
        more false = refl

-- ---- the halves show the plan

-- the half whose lines a heading runs along
abbrev half_of : ℕ → ℕ → Bool → Half
half_of rows cols true = by_cols rows cols
half_of rows cols false = by_rows rows cols

-- the half, the line and the place of a cell
abbrev pub course : ℕ → ℕ → Cell → Bool → Half × ℕ × ℕ
course rows cols x up = (half_of rows cols up, cond up x.col x.row, cond up x.row x.col)

module _ (rows cols : ℕ) (words : List ℕ) (laid : Laid rows cols words) where
  abbrev plan : Plan
  plan = plan_of rows cols words

  outside_row : (z : ℤ) → open_at plan (negsuc 0) z ≡ false
  outside_row (pos i) = refl
  outside_row (negsuc i) = refl

  outside_col : (z : ℤ) → open_at plan z (negsuc 0) ≡ false
  outside_col (pos i) = refl
  outside_col (negsuc i) = refl

  -- what a place of a line shows, where the place is inside, past the end of the line or past its words
  shown : (inside : Bool) (long words-end i : ℕ) (shut-bit : Bool) → (inside ≡ true → long ≤ i → i < words-end → shut-bit ≡ true) → long ≤ words-end →
      cond (inside && ltb i words-end) shut-bit true ≡ not ((inside && ltb i long) && ((inside && ltb i long) && not shut-bit))
  shown false long words-end i b ended e = refl
  shown true long words-end i b ended e = elim (cases_lt i long) [
    | inl l ↦ rw (lt-ltb i long l, lt-ltb i words-end (omega arith)) (sym (not-not b))
    | inr l ↦ rw (le-ltb i long l) (elim (cases_lt i words-end) [ inl m ↦ rw (lt-ltb i words-end m) (ended refl l m) | inr m ↦ rw (le-ltb i words-end m) ])
  ]

  -- where a cell is inside, the columns show it as the rows do
  turned_over : (r c : ℕ) →
      not ((ltb c cols && ltb r rows) && ((ltb c cols && ltb r rows) && not (shut words (by_cols rows cols) c r))) ≡
      not ((ltb r rows && ltb c cols) && ((ltb r rows && ltb c cols) && not (shut words (by_rows rows cols) r c)))
  turned_over r c = ap (λ t. not (t && (t && not (shut words (by_cols rows cols) c r)))) (and_comm (ltb c cols) (ltb r rows)) ∙ elim (cases_Bool (ltb r rows && ltb c cols)) [
    | inr out ↦ rw out
    | inl within ↦
        let both = and_parts (ltb r rows) (ltb c cols) within in
        ap (λ b. not ((ltb r rows && ltb c cols) && ((ltb r rows && ltb c cols) && not b))) (laid.agree r c (ltb-true r rows both.0, ltb-true c cols both.1))
  ]

  shows_plan : (up : Bool) (m q : ℕ) → line_at words (half_of rows cols up) m q ≡ not (opens plan (spot up (coordinate m) (coordinate q)))
  unfolding line_at
  shows_plan false zero q = sym (ap not (outside_row (coordinate q)))
  shows_plan false (suc l) zero = sym (ap not (outside_col (pos l)))
  shows_plan false (suc r) (suc c) =
      shown (ltb r rows) cols (64 * line_words cols) c (shut words (by_rows rows cols) r c) (λ t a b. laid.row_ends r c (ltb-true r rows t, a, b)) (omega arith)
  shows_plan true zero q = sym (ap not (outside_col (coordinate q)))
  shows_plan true (suc l) zero = sym (ap not (outside_row (pos l)))
  shows_plan true (suc c) (suc r) =
      shown (ltb c cols) rows (64 * line_words rows) r (shut words (by_cols rows cols) c r) (λ t a b. laid.col_ends c r (ltb-true c cols t, a, b)) (omega arith) ∙ turned_over r c

  at_cell : (x : Cell) (up : Bool) → spot up (pos (course rows cols x up).1) (pos (course rows cols x up).2) ≡ point x
  at_cell x true = refl
  at_cell x false = refl

  module _ (h : Heading) (d : diagonal h ≡ false) (x : Cell) where
    -- a scan of the three lines along a heading is the straight jump
    scan_jumps : is_open plan x ≡ true → (lines : Lines) (r : ℕ × Bool) → Around words (course rows cols x (upright h)).0 (course rows cols x (upright h)).1 lines →
        Scanned lines (course rows cols x (upright h)).2 (way_of h) r → r ≡ straight_from plan x h
    scan_jumps free lines r around scan =
        let l = (course rows cols x (upright h)).1 in
        let i = (course rows cols x (upright h)).2 in
        let before : Shows plan (upright h) (coordinate l) lines.before = λ q. around.before q ∙ shows_plan (upright h) l q in
        let here : Shows plan (upright h) (pos l) lines.here = λ q. around.here q ∙ shows_plan (upright h) (suc l) q in
        let after : Shows plan (upright h) (coordinate (suc (suc l))) lines.after = λ q. around.after q ∙ shows_plan (upright h) (suc (suc l)) q in
        let open-here : seen lines.here (suc i) ≡ false = here (suc i) ∙ ap not (ap (opens plan) (at_cell x (upright h)) ∙ free) in
        scan.says ∙ first_end plan h d l lines before here after scan.steps (suc i) open-here scan.none scan.there ∙
        ap (scanned plan (straight_mark plan h) h) (at_cell x (upright h))

    pub straight_scan : is_open plan x ≡ true → (lines : Lines) (r : ℕ × Bool) (t : Half × ℕ × ℕ) (way : Way) → t ≡ course rows cols x (upright h) → way ≡ way_of h →
        Around words t.0 t.1 lines → Scanned lines t.2 way r → r ≡ straight_from plan x h
    straight_scan free lines r t way e f around scan =
        scan_jumps free lines r (subst (λ (u : Half × ℕ × ℕ). Around words u.0 u.1 lines) e around)
        (subst (λ w. Scanned lines (course rows cols x (upright h)).2 w r) f (subst (λ (u : Half × ℕ × ℕ). Scanned lines u.2 way r) e scan))
