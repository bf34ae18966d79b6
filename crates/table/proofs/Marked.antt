-- A mark, from the defined table before it to the defined table after: the open number is written, the seeds are walked from, and then every equation holds again.
use Rattle.std.proofs.Common.{◌≡◌, ℕ, zero, suc, ◌+◌, ◌*◌, ◌<◌, ◌≤◌, Bool, true, false, cond, ◌&&◌, eqb, ltb, ◌≢◌, ◌⊎◌, List, [], ◌∷◌, ◌++◌, length, get_or, set, sym, refl, ap, ◌∙◌, subst, inl, inr, arith}
use Rattle.std.proofs.lemmas.Bool.{cases_Bool, and_parts, and_from, and_left, eqb-true, eq-eqb, both_ways, cond-true, cond-false}
use Rattle.std.proofs.lemmas.List.{get_or-set_same, get_or-set_other, drop-set-lt, append-nil}
use Rattle.floor.specs.declared.Cell.{Cell}
use Rattle.floor.specs.declared.Heading.{Heading}
use Rattle.floor.specs.declared.Heading.TheVariants.{North, NorthEast, East, SouthEast, South, SouthWest, West, NorthWest}
use Rattle.floor.specs.Plane.{Point, point}
use Rattle.floor.specs.Plans.{opens, is_open, marked}
use Rattle.floor.specs.Jumps.{jump_from}
use Rattle.floor.proofs.Numbers.{number_below}
use Rattle.floor.proofs.Cells.{cell_known}
use Rattle.floor.proofs.Simple.{point_dec}
use Rattle.floor.proofs.Jumps.{jump_blocked}
use Rattle.source.specs.Labels.{label_of}
use Rattle.source.specs.Few.{Few}
use Rattle.table.specs.Layout.{plan_of, needed, begins, Defined, Remarked}
use Rattle.table.specs.Equations.{label_of_point, Holds, Among, Seed, Mended, Mends, seeds, straight_first, seeds_of, all_seeds}
use Rattle.source.specs.Within.{sized_plan}
use Rattle.table.proofs.Worked.{holds_defined, defined_holds}
use Rattle.table.proofs.Spoiled.{near}
use Rattle.table.proofs.Places.{Inside, inside_from, inside_to, within_needed, apart, on_or_off, label_inside, label_kept, same_plan}

-- ---- the seeds of one heading are among those of all

among_left : (x : Point) (h : Heading) (ss ts : List Seed) → Among x h ss → Among x h (ss ++ ts)
among_left x h [] ts a = absurd a
among_left x h (s ∷ ss) ts (inl e) = inl e
among_left x h (s ∷ ss) ts (inr a) = inr (among_left x h ss ts a)

among_right : (x : Point) (h : Heading) (ss ts : List Seed) → Among x h ts → Among x h (ss ++ ts)
among_right x h [] ts a = a
among_right x h (s ∷ ss) ts a = inr (among_right x h ss ts a)

module _ (m x : Point) where
  abbrev Of : Heading → List Heading → Type 0
  Of h hs = Among x h (seeds m h) → Among x h (seeds_of m hs)

  of_first : (h : Heading) (hs : List Heading) → Of h (h ∷ hs)
  unfolding seeds_of
  of_first h hs a = among_left x h (seeds m h) (seeds_of m hs) a

  of_later : (h g : Heading) (hs : List Heading) → Of h hs → Of h (g ∷ hs)
  unfolding seeds_of
  of_later h g hs f a = among_right x h (seeds m g) (seeds_of m hs) (f a)

  -- past the first four
  of_last : (h : Heading) (hs : List Heading) → Of h hs → Of h (North ∷ East ∷ South ∷ West ∷ hs)
  of_last h hs f = of_later h North _ (of_later h East _ (of_later h South _ (of_later h West hs f)))

  among_all : (h : Heading) → Of h straight_first
  among_all North = of_first North _
  among_all East = of_later East North _ (of_first East _)
  among_all South = of_later South North _ (of_later South East _ (of_first South _))
  among_all West = of_later West North _ (of_later West East _ (of_later West South _ (of_first West _)))
  among_all NorthEast = of_last NorthEast _ (of_first NorthEast _)
  among_all SouthEast = of_last SouthEast _ (of_later SouthEast NorthEast _ (of_first SouthEast _))
  among_all SouthWest = of_last SouthWest _ (of_later SouthWest NorthEast _ (of_later SouthWest SouthEast _ (of_first SouthWest _)))
  among_all NorthWest = of_last NorthWest _ (of_later NorthWest NorthEast _ (of_later NorthWest SouthEast _ (of_later NorthWest SouthWest _ (of_first NorthWest _))))

cell_dec : (c d : Cell) → (c ≡ d) ⊎ (c ≡ d → ⊥)
cell_dec c d = elim (point_dec (point c) (point d)) [ inl e ↦ inl (cell_known e) | inr n ↦ inr (λ e. n (ap point e)) ]

module _ (rows cols : ℕ) (few : Few rows cols) where
  -- the labels of a defined table, off the plan too
  pub all_labels : (a : List ℕ) → Defined (plan_of rows cols a) a → (x : Point) (h : Heading) → label_of_point rows cols a x h ≡ label_of (jump_from (plan_of rows cols a) x h)
  all_labels a d x h = elim (on_or_off rows cols x) [
    | inr off ↦ off.no_label a h ∙ ap label_of (sym (jump_blocked (plan_of rows cols a) x h (off.shut a)))
    | inl on ↦ subst (λ y. label_of_point rows cols a y h ≡ label_of (jump_from (plan_of rows cols a) y h)) on.is_cell
        (label_inside rows cols a on.cell h on.inside ∙ d.labels on.cell (inside_to rows cols on.cell on.inside) h)
  ]

  -- each ninth number is 0 or 1
  abbrev Plain : List ℕ → Type 0
  Plain a = (c : Cell) → Inside rows cols c → get_or a (begins cols c + 8) 0 ≤ 1

  zero_or_one : (n : ℕ) → n ≤ 1 → n ≡ cond (eqb n 1) 1 0
  zero_or_one zero b = refl
  zero_or_one (suc zero) b = refl
  zero_or_one (suc (suc n)) b = absurd (omega arith)

  is_open_by : (a : List ℕ) (c : Cell) → (ltb c.row rows && ltb c.col cols) ≡ true → is_open (plan_of rows cols a) c ≡ eqb (get_or a (begins cols c + 8) 0) 1
  is_open_by a c i = ap (λ b. b && (b && eqb (get_or a (begins cols c + 8) 0) 1)) i

  one_at_most : (b : Bool) → cond b 1 0 ≤ 1
  one_at_most true = omega arith
  one_at_most false = omega arith

  pub plain_defined : (a : List ℕ) → Defined (plan_of rows cols a) a → Plain a
  plain_defined a d c i = subst (λ n. n ≤ 1) (sym (d.openings c (inside_to rows cols c i))) (one_at_most (is_open (plan_of rows cols a) c))

  -- a table with plain open numbers in which every equation holds is the defined one
  pub defined_from : (a : List ℕ) → Plain a → Mended rows cols a [] → Defined (plan_of rows cols a) a
  unfolding Mended
  defined_from a plain m = record {
    labels = λ c i h.
        sym (label_inside rows cols a c h (inside_from rows cols c i)) ∙
        holds_defined (plan_of rows cols a) (sized_plan _ few) (label_of_point rows cols a) every (point c) h;
    openings = λ c i. zero_or_one _ (plain c (inside_from rows cols c i)) ∙ sym (ap (λ b. cond b 1 0) (is_open_by a c i));
  }
    where
      every : (x : Point) (h : Heading) → Holds (opens (plan_of rows cols a)) (label_of_point rows cols a) x h
      every x h = elim (m x h) [ inl k ↦ k | inr n ↦ absurd n ]

  -- ---- the open number written

  module _ (a : List ℕ) (c : Cell) (i : Inside rows cols c) (fits : needed rows cols ≤ length a) (b : Bool) where
    abbrev after : List ℕ
    after = set a (begins cols c + 8) (cond b 1 0)

    same_open : (v : Bool) → eqb (cond v 1 0) 1 ≡ v
    same_open true = refl
    same_open false = refl

    here : get_or after (begins cols c + 8) 0 ≡ cond b 1 0
    here = get_or-set_same a (begins cols c + 8) (cond b 1 0) 0 (omega (arith, within_needed rows cols c 8 i (omega arith)))

    there : (d : Cell) → d.col < cols → (d ≡ c → ⊥) → get_or after (begins cols d + 8) 0 ≡ get_or a (begins cols d + 8) 0
    there d f n = get_or-set_other a (begins cols c + 8) (begins cols d + 8) (cond b 1 0) 0 far
      where
        far : begins cols d + 8 ≢ begins cols c + 8
        far e = n (apart cols d c 8 8 f i.in_cols (omega arith) (omega arith) e).0

    -- what a plan says of one cell
    abbrev said : List ℕ → ℕ → ℕ → Bool
    said l r s = (ltb r rows && ltb s cols) && eqb (get_or l (9 * (r * cols + s) + 8) 0) 1

    marked_at : (r s : ℕ) → said after r s ≡ cond (eqb r c.row && eqb s c.col) b (said a r s)
    marked_at r s = elim (cases_Bool (eqb r c.row && eqb s c.col)) [
      | inl e ↦
          let row : r ≡ c.row = eqb-true _ _ (and_parts _ _ e).0 in
          let col : s ≡ c.col = eqb-true _ _ (and_parts _ _ e).1 in
          (λ j. said after (row j) (col j)) ∙ ap (λ t. t && eqb (get_or after (begins cols c + 8) 0) 1) (inside_to rows cols c i) ∙ ap (λ n. eqb n 1) here ∙ same_open b ∙ sym (cond-true _ b (said a r s) e)
      | inr e ↦ elim (cases_Bool (ltb r rows && ltb s cols)) [
        | inr o ↦ and_left _ _ o ∙ sym (and_left _ _ o) ∙ sym (cond-false _ b (said a r s) e)
        | inl o ↦
            let d : Cell = record { row = r; col = s } in
            let n : d ≡ c → ⊥ = λ q. both_ways _ e (and_from _ _ (eq-eqb _ _ (ap (λ (k : Cell). k.row) q)) (eq-eqb _ _ (ap (λ (k : Cell). k.col) q))) in
            ap (λ k. (ltb r rows && ltb s cols) && eqb k 1) (there d (inside_from rows cols d o).in_cols n) ∙ sym (cond-false _ b (said a r s) e)
      ]
    ]

    -- the plan has just that cell set
    pub plan_marked : plan_of rows cols after ≡ marked (plan_of rows cols a) c b
    plan_marked = λ j. record { rows = rows; cols = cols; free = λ r s. marked_at r s j }

    labels_same : label_of_point rows cols after ≡ label_of_point rows cols a
    labels_same = λ j y g. label_kept rows cols a c i fits 8 (cond b 1 0) (omega arith) y g (λ _ e. omega (arith, number_below g)) j

    open_elsewhere : (y : Point) → (y ≡ point c → ⊥) → opens (plan_of rows cols a) y ≡ opens (plan_of rows cols after) y
    open_elsewhere y n = elim (on_or_off rows cols y) [
      | inr off ↦ off.shut a ∙ sym (off.shut after)
      | inl on ↦
          let d = on.cell in
          subst (λ x. opens (plan_of rows cols a) x ≡ opens (plan_of rows cols after) x) on.is_cell
          (ap (λ k. (ltb d.row rows && ltb d.col cols) && ((ltb d.row rows && ltb d.col cols) && eqb k 1)) (sym (there d on.inside.in_cols (λ e. n (sym on.is_cell ∙ ap point e)))))
    ]

    -- so the equations that may not hold any more are those of the seeds
    broken : Defined (plan_of rows cols a) a → Mended rows cols after (all_seeds (point c))
    unfolding Mended
    broken d x h =
        let holds = defined_holds (plan_of rows cols a) (sized_plan _ few) (label_of_point rows cols a) (all_labels a d) x h in
        elim (near (opens (plan_of rows cols a)) (opens (plan_of rows cols after)) (label_of_point rows cols a) (point c) open_elsewhere x h holds) [
          | inl k ↦ inl (subst (λ l. Holds (opens (plan_of rows cols after)) l x h) (sym labels_same) k)
          | inr s ↦ inr (among_all (point c) x h s)
        ]

    still_plain : Defined (plan_of rows cols a) a → Plain after
    still_plain d k j = elim (cell_dec k c) [
      | inl e ↦ subst (λ (q : Cell). get_or after (begins cols q + 8) 0 ≤ 1) (sym e) (subst (λ n. n ≤ 1) (sym here) (one_at_most b))
      | inr n ↦ subst (λ m. m ≤ 1) (sym (there k j.in_cols n)) (plain_defined a d k j)
    ]

    -- once they are mended the table is the defined one again
    pub remarked : (e : List ℕ) → Defined (plan_of rows cols a) a → Mends rows cols after (all_seeds (point c)) e [] → Remarked rows cols a c b e
    remarked e d m = record {
      plan = same_plan rows cols after e m.kept ∙ plan_marked;
      defined =
          defined_from e (λ k j. subst (λ n. n ≤ 1) (sym (m.kept.openings (k.row * cols + k.col))) (still_plain d k j))
          (m.leaves [] (subst (Mended rows cols after) (sym (append-nil (all_seeds (point c)))) (broken d)));
      rest = m.kept.rest ∙ drop-set-lt (needed rows cols) a (begins cols c + 8) (cond b 1 0) (within_needed rows cols c 8 i (omega arith));
    }
