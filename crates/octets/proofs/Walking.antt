-- A walk by index is the walk from cell to cell: so many strides on stands the cell so many steps on, and what is asked of the bytes beside
-- is whether a side opens up.
use Rattle.std.proofs.Common.{◌≡◌, ℕ, ◌+◌, ◌*◌, ◌<◌, ◌≤◌, Bool, true, false, cond, not, ◌&&◌, ◌||◌, ltb, List, length, sym, refl, ap, ◌∙◌, subst, inl, inr, arith}
use Rattle.std.proofs.lemmas.Bool.{cases_Bool, and_parts, ltb-true, ltb-false, lt-ltb}
use Rattle.floor.specs.declared.Cell.{Cell}
use Rattle.floor.specs.declared.Heading.{Heading}
use Rattle.floor.specs.declared.Side.{Side}
use Rattle.floor.specs.declared.Side.TheVariants.{Left, Right}
use Rattle.floor.specs.Plane.{point, turn, diagonal, step}
use Rattle.floor.specs.Plans.{Plan, opens, is_open, legal}
use Rattle.floor.proofs.Plane.{beside_straight, beside_diagonal}
use Rattle.floor.proofs.Jumps.{straight_mark}
use Rattle.floor.proofs.Cells.{found}
use Rattle.source.specs.Few.{Few}
use Rattle.source.specs.Ground.{side_opens, straight_from}
use Rattle.source.proofs.Walks.{Along, is_legal, no_end, stops_by, goes_on, ends_live, ends_dead}
use Rattle.octets.specs.declared.reaches.Stride.{Stride}
use Rattle.octets.specs.declared.reaches.Stride.TheVariants.{On}
use Rattle.octets.specs.declared.reaches.Reach.{Reach}
use Rattle.octets.specs.Layout.{free_at, plan_of}
use Rattle.octets.specs.Reaches.{Leads, moved, reach_of, beside, opens_beside}
use Rattle.octets.proofs.Strides.{Inside, index, below, Next, outside, small, next}

-- A walk from c along a reach has come so many steps, to this index. The cells beside lie as far from there as from c.
pub record Walked (rows cols : ℕ) (bytes : List ℕ) (c : Cell) (h : Heading) (reach : Reach) (steps at : ℕ) : Type 0 where
  cell : Cell
  inside : Inside rows cols cell
  is_at : at ≡ index rows cols cell
  free : free_at bytes at ≡ true
  room : reach.room ≡ steps + (reach_of rows cols cell h).room
  stride : (reach_of rows cols cell h).stride ≡ reach.stride
  sides : (s : Side) → beside rows cols cell (turn s (turn s h)) ≡ beside rows cols c (turn s (turn s h))
  along : Along (plan_of rows cols bytes) (straight_mark (plan_of rows cols bytes) h) h c steps cell

module _ (rows cols : ℕ) (few : Few rows cols) (bytes : List ℕ) (fits : rows * cols ≤ length bytes) where
  abbrev plan : Plan
  plan = plan_of rows cols bytes

  shown : (d : Cell) → Inside rows cols d → is_open plan d ≡ free_at bytes (index rows cols d)
  shown d i = rw (lt-ltb d.row rows i.0, lt-ltb d.col cols i.1) refl

  within : (d : Cell) → is_open plan d ≡ true → Inside rows cols d
  within d o = let both = and_parts _ _ (and_parts _ _ o).0 in (ltb-true _ _ both.0, ltb-true _ _ both.1)

  -- ---- one step from a cell

  module _ (h : Heading) (straight : diagonal h ≡ false) (d : Cell) (i : Inside rows cols d) where
    abbrev ahead : Reach
    ahead = reach_of rows cols d h

    leads : 0 < ahead.room → Leads ahead.stride (index rows cols d) (length bytes)
    leads l = let n = next rows cols few h straight d.row d.col i l in (n.can, omega (arith, fits, n.moves, below rows cols n.cell n.inside))

    shows : 0 < ahead.room → opens plan (step h (point d)) ≡ free_at bytes (moved ahead.stride (index rows cols d))
    shows l =
        let n = next rows cols few h straight d.row d.col i l in
        ap (opens plan) (sym n.is_next) ∙ shown n.cell n.inside ∙ ap (free_at bytes) (sym n.moves)

    edge : ahead.room ≡ 0 → opens plan (step h (point d)) ≡ false
    edge z = elim (cases_Bool (opens plan (step h (point d)))) [
      | inl o ↦ let f = found plan (step h (point d)) o in absurd (outside rows cols h straight d f.cell i (f.in_rows, f.in_cols) f.is_cell z)
      | inr o ↦ o
    ]

    leads_beside : (k : ℕ) (aside : Stride) → k ≡ index rows cols d → aside ≡ beside rows cols d h → Leads aside k (length bytes)
    leads_beside k aside is_at is = rw (is_at, is)
        (elim (cases_Bool (ltb 0 ahead.room)) [
          | inl some ↦ rw some (leads (ltb-true _ _ some))
          | inr none ↦
              let b = below rows cols d i in
              rw none (omega (arith, small rows cols few), omega (arith, fits))
        ])

  -- Past the edge nothing opens up, and no more does what is asked there: whether an open cell is closed.
  asks_beside : (g : Heading) → diagonal g ≡ false → (d e : Cell) → Inside rows cols d → Inside rows cols e → reach_of rows cols e g ≡ reach_of rows cols d g →
      free_at bytes (index rows cols d) ≡ true → opens_beside bytes (index rows cols d) (index rows cols e) (beside rows cols d g) ≡ side_opens plan d e g
  asks_beside g straight d e i j level free = elim (cases_Bool (ltb 0 (reach_of rows cols d g).room)) [
    | inl some ↦
        let to : opens plan (step g (point e)) ≡ free_at bytes (moved (reach_of rows cols d g).stride (index rows cols e)) =
        subst (λ (r : Reach). 0 < r.room → opens plan (step g (point e)) ≡ free_at bytes (moved r.stride (index rows cols e))) level (shows g straight e j) (ltb-true _ _ some) in
        rw some (λ t. not (sym (shows g straight d i (ltb-true _ _ some)) t) && sym to t)
    | inr none ↦
        let z : (reach_of rows cols d g).room ≡ 0 = omega (arith, ltb-false _ _ none) in
        let here : free_at bytes (index rows cols d + 0) ≡ true = subst (λ k. free_at bytes k ≡ true) (omega arith) free in
        rw (none, here, edge g straight d i z, edge g straight e j (ap (λ (r : Reach). r.room) level ∙ z)) refl
  ]

  -- ---- the walk

  module _ {c : Cell} {h : Heading} (straight : diagonal h ≡ false) {reach : Reach} where
    pub starts : is_open plan c ≡ true → reach ≡ reach_of rows cols c h → Walked rows cols bytes c h reach 0 (index rows cols c)
    starts o is = record {
      cell = c;
      inside = within c o;
      is_at = refl;
      free = sym (shown c (within c o)) ∙ o;
      room = omega (arith, ap (λ (r : Reach). r.room) is);
      stride = ap (λ (r : Reach). r.stride) (sym is);
      sides = λ s. refl;
      along = (omega arith, refl);
    }

    module _ {steps at : ℕ} (w : Walked rows cols bytes c h reach steps at) where
      pub comes_to_edge : reach.room ≤ steps → ◌≡◌ {A = ℕ × Bool} (reach.room, false) (straight_from plan c h)
      comes_to_edge l =
          let all : steps ≡ reach.room = omega (arith, l, w.room) in
          let blocked = no_end plan (point w.cell) h (edge h straight w.cell w.inside (omega (arith, all, w.room))) in
          subst (λ k. ◌≡◌ {A = ℕ × Bool} (k, false) (straight_from plan c h)) all (ends_dead plan (straight_mark plan h) h c w.cell steps w.along blocked)

      -- one step further, while there is room
      module _ (l : steps < reach.room) where
        onward : Next rows cols h w.cell
        onward = next rows cols few h straight w.cell.row w.cell.col w.inside (omega (arith, l, w.room))

        sides : (s : Side) → beside rows cols onward.cell (turn s (turn s h)) ≡ beside rows cols c (turn s (turn s h))
        sides s = ap (λ (r : Reach). cond (ltb 0 r.room) r.stride (On 0)) (onward.level s) ∙ w.sides s

        pub leads_on : Leads reach.stride at (length bytes)
        leads_on = rw (w.is_at, sym w.stride) (leads h straight w.cell w.inside (omega (arith, l, w.room)))

        module _ {to : ℕ} (moves : to ≡ moved reach.stride at) where
          arrives : to ≡ index rows cols onward.cell
          arrives = moves ∙ (λ t. moved (sym w.stride t) (w.is_at t)) ∙ onward.moves

          there : is_open plan onward.cell ≡ free_at bytes to
          there = shown onward.cell onward.inside ∙ ap (free_at bytes) (sym arrives)

          pub blocked : free_at bytes to ≡ false → ◌≡◌ {A = ℕ × Bool} (steps, false) (straight_from plan c h)
          blocked closed =
              ends_dead plan (straight_mark plan h) h c w.cell steps w.along (no_end plan (point w.cell) h (ap (opens plan) (sym onward.is_next) ∙ there ∙ closed))

          module _ (s : Side) {aside : Stride} (is : aside ≡ beside rows cols c (turn s (turn s h))) where
            abbrev g : Heading
            g = turn s (turn s h)

            straight_aside : diagonal g ≡ false
            straight_aside = beside_diagonal s (turn s h) (beside_straight s h straight)

            pub leads_aside : Leads aside at (length bytes) × Leads aside to (length bytes)
            leads_aside = (
              leads_beside g straight_aside w.cell w.inside at aside w.is_at (is ∙ sym (w.sides s)),
              leads_beside g straight_aside onward.cell onward.inside to aside arrives (is ∙ sym (sides s)),
            )

            asks : opens_beside bytes at to aside ≡ side_opens plan w.cell onward.cell g
            asks =
                (λ t. opens_beside bytes (w.is_at t) (arrives t) ((is ∙ sym (w.sides s)) t)) ∙
                asks_beside g straight_aside w.cell onward.cell w.inside onward.inside (onward.level s) (subst (λ k. free_at bytes k ≡ true) w.is_at w.free)

          module _ (free : free_at bytes to ≡ true) {left right : Stride} (is-left : left ≡ beside rows cols c (turn Left (turn Left h))) (is-right : right ≡ beside rows cols c (turn Right (turn Right h))) where
            is_step : legal (opens plan) (point w.cell) h ≡ true
            is_step =
                let here = shown w.cell w.inside ∙ ap (free_at bytes) (sym w.is_at) ∙ w.free in
                is_legal plan w.cell onward.cell h onward.is_next (sym here) (sym (there ∙ free)) (rw straight refl)

            marks : (b : Bool) → (opens_beside bytes at to left || opens_beside bytes at to right) ≡ b → straight_mark plan h (point w.cell) ≡ b
            marks b e = stops_by plan w.cell onward.cell h onward.is_next b (sym e ∙ (λ t. asks Left is-left t || asks Right is-right t))

            pub stops : (opens_beside bytes at to left || opens_beside bytes at to right) ≡ true → ◌≡◌ {A = ℕ × Bool} (steps + 1, true) (straight_from plan c h)
            stops e = ends_live plan (straight_mark plan h) h c w.cell steps w.along is_step (marks true e)

            pub goes : (opens_beside bytes at to left || opens_beside bytes at to right) ≡ false → Walked rows cols bytes c h reach (steps + 1) to
            goes e = record {
              cell = onward.cell;
              inside = onward.inside;
              is_at = arrives;
              free = free;
              room = omega (arith, w.room, onward.room);
              stride = onward.stride ∙ w.stride;
              sides = sides;
              along = goes_on plan (straight_mark plan h) h c w.cell onward.cell steps w.along is_step (marks false e) onward.is_next;
            }
