-- Where the numbers of a cell lie: within the needed part, and apart from those of every other cell. So a write changes one label, or the openness of one cell, and nothing else.
use Rattle.std.proofs.Common.{◌≡◌, ℕ, ◌+◌, ◌*◌, ◌<◌, ◌≤◌, true, false, cond, ◌&&◌, eqb, ltb, ◌≢◌, ◌⊎◌, List, length, get_or, Option, set, ℤ, pos, negsuc, sym, refl, ap, ◌∙◌, subst, inl, inr, arith}
use Rattle.std.proofs.lemmas.Bool.{cases_Bool, and_parts, and_from, and_left, ltb-true, lt-ltb}
use Rattle.std.proofs.lemmas.List.{get_or-set_same, get_or-set_other, drop-set-lt}
use Rattle.std.proofs.lemmas.Nat.{mul-add-lt}
use Rattle.floor.specs.declared.Cell.{Cell}
use Rattle.floor.specs.declared.Heading.{Heading}
use Rattle.floor.specs.Plane.{Point, point, number, step}
use Rattle.floor.specs.Plans.{opens}
use Rattle.floor.proofs.Numbers.{number_below}
use Rattle.floor.proofs.Jumps.{closed_stays}
use Rattle.source.specs.declared.extents.Size.{Size}
use Rattle.source.proofs.Indices.{same_pair}
use Rattle.table.specs.Layout.{Placed, plan_of, needed, begins}
use Rattle.table.specs.Equations.{dead, one_on, label_of_point, ends, due, Holds, Relabelled}

-- ---- places

-- a cell inside
pub record Inside (rows cols : ℕ) (c : Cell) : Type 0 where
  pub in_rows : c.row < rows
  pub in_cols : c.col < cols

pub inside_from : (rows cols : ℕ) (c : Cell) → (ltb c.row rows && ltb c.col cols) ≡ true → Inside rows cols c
inside_from rows cols c e = let both = and_parts _ _ e in record { in_rows = ltb-true _ _ both.0; in_cols = ltb-true _ _ both.1 }

pub inside_to : (rows cols : ℕ) (c : Cell) → Inside rows cols c → (ltb c.row rows && ltb c.col cols) ≡ true
inside_to rows cols c i = and_from _ _ (lt-ltb _ _ i.in_rows) (lt-ltb _ _ i.in_cols)

-- the same for a table of the same size
pub placed_in : (s t : Size) → s ≡ t → (c : Cell) (k : Option ℕ) → Placed s.rows s.cols c k → Placed t.rows t.cols c k
placed_in s t e c k p = subst (λ (z : Size). Placed z.rows z.cols c k) e p

-- the numbers of a cell inside are among the needed ones
pub within_needed : (rows cols : ℕ) (c : Cell) (n : ℕ) → Inside rows cols c → n < 9 → begins cols c + n < needed rows cols
within_needed rows cols c n i b = omega (arith, mul-add-lt c.row cols c.col rows i.in_rows i.in_cols)

-- and no two cells share one
pub apart : (cols : ℕ) (c d : Cell) (n m : ℕ) → c.col < cols → d.col < cols → n < 9 → m < 9 → begins cols c + n ≡ begins cols d + m → (c ≡ d) × (n ≡ m)
apart cols c d n m f g a b e =
    let same = same_pair cols c.row c.col d.row d.col f g (omega arith) in
    ((λ i. record { row = same.0 i; col = same.1 i }), omega (arith, same.0, same.1))

-- ---- points

-- a point off the plan: closed, with dead labels
pub record Off (rows cols : ℕ) (x : Point) : Type 0 where
  pub no_label : (numbers : List ℕ) (h : Heading) → label_of_point rows cols numbers x h ≡ dead
  pub shut : (numbers : List ℕ) → opens (plan_of rows cols numbers) x ≡ false

pub record On (rows cols : ℕ) (x : Point) : Type 0 where
  pub cell : Cell
  pub is_cell : point cell ≡ x
  pub inside : Inside rows cols cell

-- a cell that is not inside
pub off_cell : (rows cols : ℕ) (c : Cell) → (ltb c.row rows && ltb c.col cols) ≡ false → Off rows cols (point c)
unfolding label_of_point
off_cell rows cols c e = record {
  no_label = λ numbers h. ap (λ b. cond b (get_or numbers (begins cols c + number h) 0) dead) e;
  shut = λ numbers. and_left _ _ e;
}

pub on_or_off : (rows cols : ℕ) (x : Point) → On rows cols x ⊎ Off rows cols x
unfolding label_of_point
on_or_off rows cols x = at x.row x.col
  where
    at : (r c : ℤ) → On rows cols (record { row = r; col = c }) ⊎ Off rows cols (record { row = r; col = c })
    at (pos r) (pos c) = elim (cases_Bool (ltb r rows && ltb c cols)) [
      | inl e ↦ inl (record { cell = record { row = r; col = c }; is_cell = refl; inside = inside_from rows cols (record { row = r; col = c }) e })
      | inr e ↦ inr (off_cell rows cols (record { row = r; col = c }) e)
    ]
    at (pos r) (negsuc c) = inr (record { no_label = λ numbers h. refl; shut = λ numbers. refl })
    at (negsuc r) (pos c) = inr (record { no_label = λ numbers h. refl; shut = λ numbers. refl })
    at (negsuc r) (negsuc c) = inr (record { no_label = λ numbers h. refl; shut = λ numbers. refl })

pub off_holds : (rows cols : ℕ) (numbers : List ℕ) (x : Point) (h : Heading) → Off rows cols x → Holds (opens (plan_of rows cols numbers)) (label_of_point rows cols numbers) x h
unfolding due
off_holds rows cols numbers x h off =
    let free = opens (plan_of rows cols numbers) in
    off.no_label numbers h ∙
    sym (ap (λ b. cond b (cond (ends free (label_of_point rows cols numbers) x h) 1 (one_on (label_of_point rows cols numbers (step h x) h))) dead) (closed_stays free x h (off.shut numbers)))

-- ---- reading and writing

pub label_inside : (rows cols : ℕ) (numbers : List ℕ) (c : Cell) (h : Heading) → Inside rows cols c → label_of_point rows cols numbers (point c) h ≡ get_or numbers (begins cols c + number h) 0
unfolding label_of_point
label_inside rows cols numbers c h i = ap (λ b. cond b (get_or numbers (begins cols c + number h) 0) dead) (inside_to rows cols c i)

module _ (rows cols : ℕ) (numbers : List ℕ) (c : Cell) (i : Inside rows cols c) (fits : needed rows cols ≤ length numbers) where
  -- a label written is read again
  pub label_put : (h : Heading) (v : ℕ) → label_of_point rows cols (set numbers (begins cols c + number h) v) (point c) h ≡ v
  label_put h v =
      label_inside rows cols (set numbers (begins cols c + number h) v) c h i ∙
      get_or-set_same numbers (begins cols c + number h) v 0 (omega (arith, within_needed rows cols c (number h) i (omega (arith, number_below h))))

  -- and every other is as it was, whichever of the nine numbers of c is written
  pub label_kept : (n v : ℕ) → n < 9 → (y : Point) (g : Heading) → (y ≡ point c → number g ≡ n → ⊥) → label_of_point rows cols (set numbers (begins cols c + n) v) y g ≡ label_of_point rows cols numbers y g
  label_kept n v b y g other = elim (on_or_off rows cols y) [
    | inr off ↦ off.no_label _ g ∙ sym (off.no_label numbers g)
    | inl on ↦
        let d = on.cell in
        let far : begins cols d + number g ≢ begins cols c + n = λ e.
        let same = apart cols d c (number g) n on.inside.in_cols i.in_cols (omega (arith, number_below g)) b e in
        other (sym on.is_cell ∙ ap point same.0) same.1 in
        subst (λ z. label_of_point rows cols (set numbers (begins cols c + n) v) z g ≡ label_of_point rows cols numbers z g) on.is_cell
        (label_inside rows cols (set numbers (begins cols c + n) v) d g on.inside ∙ get_or-set_other numbers (begins cols c + n) (begins cols d + number g) v 0 far ∙
        sym (label_inside rows cols numbers d g on.inside))
  ]

  pub relabelled_put : (h : Heading) (v : ℕ) → Relabelled rows cols numbers (set numbers (begins cols c + number h) v)
  relabelled_put h v = record {
    openings = λ k. get_or-set_other numbers (begins cols c + number h) (9 * k + 8) v 0 (ninth k);
    rest = drop-set-lt (needed rows cols) numbers (begins cols c + number h) v (within_needed rows cols c (number h) i (omega (arith, number_below h)));
  }
    where
      ninth : (k : ℕ) → 9 * k + 8 ≢ begins cols c + number h
      ninth k e = omega (arith, number_below h)

-- ---- only labels written

pub relabelled_none : (rows cols : ℕ) (a : List ℕ) → Relabelled rows cols a a
relabelled_none rows cols a = record { openings = λ k. refl; rest = refl }

pub relabelled_on : (rows cols : ℕ) (a b c : List ℕ) → Relabelled rows cols a b → Relabelled rows cols b c → Relabelled rows cols a c
relabelled_on rows cols a b c p q = record { openings = λ k. q.openings k ∙ p.openings k; rest = q.rest ∙ p.rest }

pub same_plan : (rows cols : ℕ) (a b : List ℕ) → Relabelled rows cols a b → plan_of rows cols b ≡ plan_of rows cols a
same_plan rows cols a b p = λ i. record { rows = rows; cols = cols; free = λ r c. (ltb r rows && ltb c cols) && eqb (p.openings (r * cols + c) i) 1 }
