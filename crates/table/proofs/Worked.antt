-- A table in which every equation holds is the defined one, and the other way round: along a heading each label follows from the next, and legal steps come to an end.
use Rattle.std.proofs.Common.{◌≡◌, ℕ, zero, suc, ◌+◌, ◌%◌, ◌<◌, ◌≤◌, Bool, true, false, cond, ◌||◌, sym, refl, ap, ◌∙◌, inl, inr, arith}
use Rattle.std.proofs.lemmas.Bool.{cases_Bool, lt-ltb, le-ltb}
use Rattle.floor.specs.declared.Heading.{Heading}
use Rattle.floor.specs.declared.Side.TheVariants.{Left, Right}
use Rattle.floor.specs.Plane.{Point, turn, diagonal, step}
use Rattle.floor.specs.Plans.{Plan, Sized, opens, legal}
use Rattle.floor.specs.Jumps.{stops, jump_from}
use Rattle.floor.proofs.Plane.{beside_diagonal}
use Rattle.floor.proofs.Jumps.{room, room_falls, room_fits, scanned, unrolls, one_more, scan_fits, straight_mark, diagonal_mark, jump_straight, jump_diagonal}
use Rattle.source.specs.Labels.{label_of}
use Rattle.table.specs.Equations.{dead, live, one_on, ends, due, Holds}

-- ---- labels of jumps

pub live_label : (k : ℕ) (b : Bool) → live (label_of (k, b)) ≡ b
live_label k true = lt-ltb (k % 32768) 32768 (omega arith)
live_label k false = le-ltb (32768 + k % 32768) 32768 (omega arith)

-- one step more is one more in the label
label_on : (k : ℕ) (b : Bool) → k < 128 → label_of (suc k, b) ≡ one_on (label_of (k, b))
label_on k true f = omega arith
label_on k false f = omega arith

-- what a label should be where a step is legal or not, and ends a jump or not
abbrev follows : Bool → Bool → ℕ → ℕ
follows may ended next = cond may (cond ended 1 (one_on next)) dead

label_follows : (may ended : Bool) (j : ℕ × Bool) → j.0 < 128 → label_of (one_more may ended j) ≡ follows may ended (label_of j)
label_follows true true j f = refl
label_follows true false j f = label_on j.0 j.1 f
label_follows false ended j f = refl

-- ---- along a heading

module _ (p : Plan) (small : Sized p) (mark : Point → Bool) (h : Heading) where
  short : (x : Point) → (scanned p mark h x).0 < 128
  short x = omega (arith, scan_fits p mark h (p.rows + p.cols) x, room_fits p 127 (omega (arith, small.few_rows)) (omega (arith, small.few_cols)) h x)

  -- the labels of a scan follow one another
  pub scan_follows : (x : Point) → label_of (scanned p mark h x) ≡ follows (legal (opens p) x h) (mark x) (label_of (scanned p mark h (step h x)))
  scan_follows x = ap label_of (unrolls p mark h x) ∙ label_follows (legal (opens p) x h) (mark x) (scanned p mark h (step h x)) (short (step h x))

  -- and numbers that follow one another so are these labels
  pub only_scan : (f : Point → ℕ) → ((x : Point) → f x ≡ follows (legal (opens p) x h) (mark x) (f (step h x))) → (n : ℕ) (x : Point) → room p h x ≤ n → f x ≡ label_of (scanned p mark h x)
  only_scan f eq zero x r = elim (cases_Bool (legal (opens p) x h)) [
    | inl l ↦ absurd (omega (arith, room_falls p h x l))
    | inr l ↦ eq x ∙ ap (λ b. follows b (mark x) (f (step h x))) l ∙ sym (ap (λ b. follows b (mark x) (label_of (scanned p mark h (step h x)))) l) ∙ sym (scan_follows x)
  ]
  only_scan f eq (suc n) x r = elim (cases_Bool (legal (opens p) x h)) [
    | inl l ↦ eq x ∙ ap (follows (legal (opens p) x h) (mark x)) (only_scan f eq n (step h x) (omega (arith, room_falls p h x l))) ∙ sym (scan_follows x)
    | inr l ↦ eq x ∙ ap (λ b. follows b (mark x) (f (step h x))) l ∙ sym (ap (λ b. follows b (mark x) (label_of (scanned p mark h (step h x)))) l) ∙ sym (scan_follows x)
  ]

-- ---- all headings

module _ (p : Plan) (small : Sized p) (label : Point → Heading → ℕ) where
  -- where a jump ends, by the table
  abbrev end_mark : Heading → Point → Bool
  end_mark h y = ends (opens p) label y h

  straight_ends : (h : Heading) → diagonal h ≡ false → end_mark h ≡ straight_mark p h
  unfolding ends
  straight_ends h d = λ i y. cond (d i) (live (label (step h y) (turn Left h)) || live (label (step h y) (turn Right h))) (stops (opens p) y h)

  abbrev Straights : Type 0
  Straights = (x : Point) (h : Heading) → diagonal h ≡ false → label x h ≡ label_of (jump_from p x h)

  live_straight : Straights → (x : Point) (h : Heading) → diagonal h ≡ false → live (label x h) ≡ (scanned p (straight_mark p h) h x).1
  live_straight right x h d = ap live (right x h d ∙ ap label_of (jump_straight p x h d)) ∙ live_label (scanned p (straight_mark p h) h x).0 (scanned p (straight_mark p h) h x).1

  diagonal_ends : Straights → (h : Heading) → diagonal h ≡ true → end_mark h ≡ diagonal_mark p h
  unfolding ends
  diagonal_ends right h d =
      let by-labels : end_mark h ≡ (λ y. live (label (step h y) (turn Left h)) || live (label (step h y) (turn Right h))) =
      λ i y. cond (d i) (live (label (step h y) (turn Left h)) || live (label (step h y) (turn Right h))) (stops (opens p) y h) in
      by-labels ∙ (λ i y. live_straight right (step h y) (turn Left h) (beside_diagonal Left h d) i || live_straight right (step h y) (turn Right h) (beside_diagonal Right h d) i)

  jump_ends : Straights → (x : Point) (h : Heading) → jump_from p x h ≡ scanned p (end_mark h) h x
  jump_ends right x h = elim (cases_Bool (diagonal h)) [
    | inl d ↦ jump_diagonal p x h d ∙ sym (ap (λ m. scanned p m h x) (diagonal_ends right h d))
    | inr d ↦ jump_straight p x h d ∙ sym (ap (λ m. scanned p m h x) (straight_ends h d))
  ]

  -- by the equations, each label is that of the scan for its ends
  by_scan : ((x : Point) (h : Heading) → Holds (opens p) label x h) → (x : Point) (h : Heading) → label x h ≡ label_of (scanned p (end_mark h) h x)
  unfolding due
  by_scan holds x h = only_scan p small (end_mark h) h (λ y. label y h) (λ y. holds y h) (p.rows + p.cols) x (room_fits p (p.rows + p.cols) (omega arith) (omega arith) h x)

  -- a table in which every equation holds is the defined one
  pub holds_defined : ((x : Point) (h : Heading) → Holds (opens p) label x h) → (x : Point) (h : Heading) → label x h ≡ label_of (jump_from p x h)
  holds_defined holds x h =
      let right : Straights = λ y g d. by_scan holds y g ∙ ap label_of (ap (λ m. scanned p m g y) (straight_ends g d) ∙ sym (jump_straight p y g d)) in
      by_scan holds x h ∙ sym (ap label_of (jump_ends right x h))

  -- in the defined table every equation holds
  pub defined_holds : ((x : Point) (h : Heading) → label x h ≡ label_of (jump_from p x h)) → (x : Point) (h : Heading) → Holds (opens p) label x h
  unfolding due
  defined_holds right x h =
      let by : (y : Point) → label y h ≡ label_of (scanned p (end_mark h) h y) = λ y. right y h ∙ ap label_of (jump_ends (λ z g d. right z g) y h) in
      by x ∙ scan_follows p small (end_mark h) h x ∙ ap (follows (legal (opens p) x h) (end_mark h x)) (sym (by (step h x)))
