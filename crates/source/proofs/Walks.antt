-- A walk along a jump: at each cell what is left of the jump is the jump from there, so that the steps taken and the steps left are the whole.
use Rattle.std.proofs.Common.{◌≡◌, ℕ, suc, ◌+◌, ◌<◌, Bool, true, false, not, ◌&&◌, ◌||◌, sym, ap, ◌∙◌, subst, arith}
use Rattle.std.proofs.lemmas.Bool.{and_from, and_left, and_right, and_parts}
use Rattle.floor.specs.declared.Cell.{Cell}
use Rattle.floor.specs.declared.Heading.{Heading}
use Rattle.floor.specs.declared.Side.{Side}
use Rattle.floor.specs.declared.Side.TheVariants.{Left, Right}
use Rattle.floor.specs.Plane.{Point, point, turn, step}
use Rattle.floor.specs.Plans.{Plan, Sized, opens, is_open, legal}
use Rattle.floor.specs.Jumps.{stop}
use Rattle.source.specs.Ground.{clear_of_corners, stops_at, straight_from, live_beside}
use Rattle.floor.proofs.Jumps.{closed_stays, room_fits, straight_mark, diagonal_mark, scanned, scan_blocked, scan_found, scan_further, scan_fits}

-- ---- legal steps by their cells

module _ (p : Plan) (c d : Cell) (h : Heading) (end : point d ≡ step h (point c)) where
  legal_by : legal (opens p) (point c) h ≡ ((is_open p c && is_open p d) && clear_of_corners p c h)
  unfolding legal
  legal_by = ap (λ x. (is_open p c && opens p x) && clear_of_corners p c h) (sym end)

  -- what the questions of the code answered
  pub is_legal : true ≡ is_open p c → true ≡ is_open p d → true ≡ clear_of_corners p c h → legal (opens p) (point c) h ≡ true
  is_legal here there clear = legal_by ∙ and_from _ _ (and_from _ _ (sym here) (sym there)) (sym clear)

  pub closed_there : false ≡ is_open p d → legal (opens p) (point c) h ≡ false
  closed_there e = legal_by ∙ and_left _ _ (and_right _ _ (sym e))

  pub corner_cut : false ≡ clear_of_corners p c h → legal (opens p) (point c) h ≡ false
  corner_cut e = legal_by ∙ and_right _ _ (sym e)

  -- a legal step ends at an open cell
  pub there_open : legal (opens p) (point c) h ≡ true → is_open p d ≡ true
  unfolding legal
  there_open e = ap (opens p) end ∙ (and_parts _ _ (and_parts _ _ e).0).1

pub no_end : (p : Plan) (x : Point) (h : Heading) → opens p (step h x) ≡ false → legal (opens p) x h ≡ false
unfolding legal
no_end p x h e = and_left _ _ (and_right _ _ e)

-- ---- marks by the cells that are asked

module _ (p : Plan) (c d : Cell) (h : Heading) (end : point d ≡ step h (point c)) where
  pub stops_by : (b : Bool) → b ≡ stops_at p c d h → straight_mark p h (point c) ≡ b
  unfolding stop
  stops_by b e =
      let opens-on : Point → Side → Bool = λ x s. not (opens p (step (turn s (turn s h)) (point c))) && opens p (step (turn s (turn s h)) x) in
      ap (λ x. opens-on x Left || opens-on x Right) (sym end) ∙ sym e

  pub beside_by : (b : Bool) → b ≡ live_beside p d h → diagonal_mark p h (point c) ≡ b
  beside_by b e = ap (λ x. (scanned p (straight_mark p (turn Left h)) (turn Left h) x).1 || (scanned p (straight_mark p (turn Right h)) (turn Right h) x).1) (sym end) ∙ sym e

-- ---- walks

module _ (p : Plan) (mark : Point → Bool) (h : Heading) where
  -- k steps on from c, at d, what is left of the jump from c is the jump from d
  abbrev pub Along : Cell → ℕ → Cell → Type 0
  Along c k d = ((scanned p mark h (point c)).0 ≡ k + (scanned p mark h (point d)).0) × ((scanned p mark h (point c)).1 ≡ (scanned p mark h (point d)).1)

  pub goes_on : (c d e : Cell) (k : ℕ) → Along c k d → legal (opens p) (point d) h ≡ true → mark (point d) ≡ false → point e ≡ step h (point d) → Along c (k + 1) e
  goes_on c d e k a l m at =
      let f = scan_further p mark h (point d) l m in
      let f' = subst (λ x. scanned p mark h (point d) ≡ (suc (scanned p mark h x).0, (scanned p mark h x).1)) (sym at) f in
      (omega (arith, a.0, ap (λ (j : ℕ × Bool). j.0) f'), a.1 ∙ ap (λ (j : ℕ × Bool). j.1) f')

  -- each step leaves fewer
  pub fewer_left : (d e : Cell) → legal (opens p) (point d) h ≡ true → mark (point d) ≡ false → point e ≡ step h (point d) → (scanned p mark h (point e)).0 < (scanned p mark h (point d)).0
  fewer_left d e l m at =
      let f = scan_further p mark h (point d) l m in
      let f' = subst (λ x. (scanned p mark h (point d)).0 ≡ suc (scanned p mark h x).0) (sym at) (ap (λ (j : ℕ × Bool). j.0) f) in
      omega arith

  pub ends_live : (c d : Cell) (k : ℕ) → Along c k d → legal (opens p) (point d) h ≡ true → mark (point d) ≡ true → ◌≡◌ {A = ℕ × Bool} (k + 1, true) (scanned p mark h (point c))
  ends_live c d k a l m =
      let f = scan_found p mark h (point d) l m in
      let steps : k + 1 ≡ (scanned p mark h (point c)).0 = omega (arith, a.0, ap (λ (j : ℕ × Bool). j.0) f) in
      λ i. (steps i, sym (a.1 ∙ ap (λ (j : ℕ × Bool). j.1) f) i)

  pub ends_dead : (c d : Cell) (k : ℕ) → Along c k d → legal (opens p) (point d) h ≡ false → ◌≡◌ {A = ℕ × Bool} (k, false) (scanned p mark h (point c))
  ends_dead c d k a l =
      let f = scan_blocked p mark h (point d) l in
      let steps : k ≡ (scanned p mark h (point c)).0 = omega (arith, a.0, ap (λ (j : ℕ × Bool). j.0) f) in
      λ i. (steps i, sym (a.1 ∙ ap (λ (j : ℕ × Bool). j.1) f) i)

  -- the steps taken fit 16 bits
  pub few_steps : Sized p → (c d : Cell) (k : ℕ) → Along c k d → k < 128
  few_steps s c d k a = omega (arith, a.0, scan_fits p mark h (p.rows + p.cols) (point c), room_fits p 127 (omega (arith, s.few_rows)) (omega (arith, s.few_cols)) h (point c))

  -- there is no jump from a closed cell
  pub from_closed : (c : Cell) → is_open p c ≡ false → ◌≡◌ {A = ℕ × Bool} (0, false) (scanned p mark h (point c))
  from_closed c e = sym (scan_blocked p mark h (point c) (closed_stays (opens p) (point c) h e))

pub closed_jump : (p : Plan) (h : Heading) (c : Cell) → is_open p c ≡ false → ◌≡◌ {A = ℕ × Bool} (0, false) (straight_from p c h)
closed_jump p h c = from_closed p (straight_mark p h) h c
