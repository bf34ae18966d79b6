-- What a new table holds, and what is read from a defined one.
use Rattle.std.proofs.Common.{◌≡◌, ℕ, ◌+◌, ◌*◌, ◌%◌, ◌<◌, Bool, true, false, cond, ◌&&◌, eqb, ltb, List, length, get_or, drop, Some, None, Ok, Err, Result, sym, ap, ◌∙◌, subst, inl, inr, arith, MatchResult}
use Rattle.std.proofs.lemmas.Bool.{cases_Bool, and_left, and_right, cond-true, cond-false, eq-eqb, ne_eqb, le-ltb}
use Rattle.floor.specs.declared.Cell.{Cell}
use Rattle.floor.specs.declared.Heading.{Heading}
use Rattle.floor.specs.Plane.{point, number, heading}
use Rattle.floor.specs.Plans.{Plan, inside, is_open, closed}
use Rattle.floor.specs.Jumps.{jump_from, jump_of}
use Rattle.floor.proofs.Numbers.{number_below, heading_at}
use Rattle.floor.proofs.Jumps.{jump_blocked, jump_short, jump_numbered}
use Rattle.source.specs.Labels.{label_of, said_by}
use Rattle.source.specs.declared.extents.Size.{Size}
use Rattle.source.proofs.Laid.{Gets}
use Rattle.source.specs.declared.sizes.SizeRefusal.{SizeRefusal}
use Rattle.source.specs.Sizes.{size_answer}
use Rattle.source.specs.Drawing.{opened}
use Rattle.source.proofs.LabelLaws.{label_says}
use Rattle.source.specs.Few.{Few}
use Rattle.table.specs.Layout.{plan_of, needed, begins, Defined, Labelled, Flagged, New, Unmade, Made, Drawn}
use Rattle.table.specs.Equations.{label_of_point}
use Rattle.table.proofs.Places.{inside_from, within_needed}
use Rattle.table.proofs.Marked.{all_labels}

-- ---- a new table

-- a plan of no rows and no columns
nothing : (a : List ℕ) → plan_of 0 0 a ≡ closed 0 0
nothing a = λ i. record { rows = 0; cols = 0; free = λ r c. none r c i }
  where
    none : (r c : ℕ) → (plan_of 0 0 a).free r c ≡ false
    none r c = and_left _ _ (and_left (ltb r 0) (ltb c 0) (le-ltb r 0 (omega arith)))

module _ (rows cols : ℕ) (a : List ℕ) (filled : (k : ℕ) → k < needed rows cols → get_or a k 0 ≡ cond (eqb (k % 9) 8) 0 32768) where
  ninth : (m : ℕ) → (9 * m + 8) % 9 ≡ 8
  ninth m = omega arith

  another : (m n : ℕ) → n < 8 → (9 * m + n) % 9 ≡ 8 → ⊥
  another m n b e = omega arith

  new_flag : (c : Cell) → (ltb c.row rows && ltb c.col cols) ≡ true → get_or a (begins cols c + 8) 0 ≡ 0
  new_flag c i = filled _ (within_needed rows cols c 8 (inside_from rows cols c i) (omega arith)) ∙ cond-true _ 0 32768 (eq-eqb _ _ (ninth (c.row * cols + c.col)))

  new_label : (c : Cell) → (ltb c.row rows && ltb c.col cols) ≡ true → (h : Heading) → get_or a (begins cols c + number h) 0 ≡ 32768
  new_label c i h =
      filled _ (within_needed rows cols c (number h) (inside_from rows cols c i) (omega (arith, number_below h))) ∙
      cond-false _ 0 32768 (ne_eqb _ _ (another (c.row * cols + c.col) (number h) (number_below h)))

  shut : (r c : ℕ) → ((ltb r rows && ltb c cols) && eqb (get_or a (9 * (r * cols + c) + 8) 0) 1) ≡ false
  shut r c = elim (cases_Bool (ltb r rows && ltb c cols)) [
    | inr o ↦ and_left _ _ o
    | inl i ↦ and_right _ _ (ap (λ n. eqb n 1) (new_flag (record { row = r; col = c }) i))
  ]

  pub new_plan : plan_of rows cols a ≡ closed rows cols
  new_plan = λ i. record { rows = rows; cols = cols; free = λ r c. shut r c i }

  none_open : (c : Cell) → is_open (plan_of rows cols a) c ≡ false
  none_open c = and_right _ _ (shut c.row c.col)

  pub new_labelled : Labelled (plan_of rows cols a) a
  new_labelled c i h = new_label c i h ∙ ap label_of (sym (jump_blocked (plan_of rows cols a) (point c) h (none_open c)))

  pub new_flagged : Flagged (plan_of rows cols a) a
  new_flagged c i = new_flag c i ∙ sym (ap (λ b. cond b 1 0) (none_open c))

  pub new_defined : Defined (closed rows cols) a
  new_defined = subst (λ p. Defined p a) new_plan (record { labels = new_labelled; openings = new_flagged })

-- what making leaves, by the size that it gets
pub made_by : (rows cols : ℕ) (before after : List ℕ) (s : Size) → Gets rows cols s (size_answer rows cols (length before) (needed rows cols)) →
    ((k : ℕ) → k < needed s.rows s.cols → get_or after k 0 ≡ cond (eqb (k % 9) 8) 0 32768) → drop (needed s.rows s.cols) after ≡ drop (needed s.rows s.cols) before →
    Made rows cols before (plan_of s.rows s.cols after) after
made_by rows cols before after s gets filled rest = at (size_answer rows cols (length before) (needed rows cols)) gets
  where
    at : (a : Result (Unit {0}) SizeRefusal) → Gets rows cols s a → MatchResult a (λ _. New rows cols before (plan_of s.rows s.cols after) after) (λ _. Unmade before (plan_of s.rows s.cols after) after)
    at (Ok _) g = rw (← g.0, ← g.1) (record { plan = new_plan s.rows s.cols after filled; defined = new_defined s.rows s.cols after filled; filled = filled; rest = rest })
    at (Err _) g =
        let none : needed s.rows s.cols ≡ 0 = ap (λ n. needed n s.cols) g.0 ∙ omega arith in
        record { plan = (λ i. plan_of (g.0 i) (g.1 i) after) ∙ nothing after; same = subst (λ n. drop n after ≡ drop n before) none rest }

-- ---- reading

module _ (rows cols : ℕ) (few : Few rows cols) (a : List ℕ) (d : Defined (plan_of rows cols a) a) where
  -- a label read says the jump
  pub jump_read : (c : Cell) (n : ℕ) (h : Heading) → Some h ≡ heading n → said_by (label_of_point rows cols a (point c) h) ≡ jump_of (plan_of rows cols a) c n
  jump_read c n h e =
      let p = plan_of rows cols a in
      let short = jump_short p 127 (omega (arith, few.0)) (omega (arith, few.1)) (point c) h in
      ap said_by (all_labels rows cols few a d (point c) h) ∙ label_says (jump_from p (point c) h).0 (jump_from p (point c) h).1 (omega arith) ∙
      ap (λ o. elim o as (λ _. ℕ × Bool) [ Some g ↦ jump_from p (point c) g | None ↦ (0, false) ]) e

  -- the labels of a cell outside
  pub label_outside : (c : Cell) → inside (plan_of rows cols a) c ≡ false → (n : ℕ) → n < 8 → 32768 ≡ label_of (jump_of (plan_of rows cols a) c n)
  label_outside c o n b =
      let g = heading_at n b in
      subst (λ k. 32768 ≡ label_of (jump_of (plan_of rows cols a) c k)) g.1
      (ap label_of (sym (jump_numbered (plan_of rows cols a) c g.0 ∙ jump_blocked (plan_of rows cols a) (point c) g.0 (and_left _ _ o))))

-- ---- memory after drawing

module _ (rows cols : ℕ) (cells : List Cell) (before mid after : List ℕ) (r c r' c' : ℕ) where
  pub drawn_by : Made rows cols before (plan_of r c mid) mid → Defined (plan_of r' c' after) after → plan_of r' c' after ≡ opened (plan_of r c mid) cells →
      drop (needed r c) after ≡ drop (needed r c) mid → Drawn rows cols cells before after
  drawn_by made defined means kept = at (size_answer rows cols (length before) (needed rows cols)) made
    where
      at : (a : Result (Unit {0}) SizeRefusal) → MatchResult a (λ _. New rows cols before (plan_of r c mid) mid) (λ _. Unmade before (plan_of r c mid) mid) →
          MatchResult a (λ _. Defined (opened (closed rows cols) cells) after × (drop (needed rows cols) after ≡ drop (needed rows cols) before)) (λ _. after ≡ before)
      at (Ok _) n = (
        subst (λ p. Defined p after) (means ∙ ap (λ p. opened p cells) n.plan) defined,
        subst (λ k. drop k after ≡ drop k mid) (ap (λ (p : Plan). needed p.rows p.cols) n.plan) kept ∙ n.rest,
      )
      at (Err _) u = subst (λ k. drop k after ≡ drop k mid) (ap (λ (p : Plan). needed p.rows p.cols) u.plan) kept ∙ u.same
