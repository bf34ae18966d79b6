-- A reading ends at the first line that is wrong, or says that all are right: by induction on the lines that are left.
use Rattle.std.proofs.Common.{◌≡◌, ◌⊎◌, ℕ, ◌+◌, ◌-◌, ◌<◌, ◌≤◌, Bool, true, false, cond, ◌&&◌, ltb, List, [], ◌∷◌, ◌++◌, length, get_or, take, drop, ◌||◌, IfOk, IfErr, Some, None, Ok, Err, Option, Result, MatchOption, sym, refl, ap, ◌∙◌, subst, inl, inr, ⊎_elim, arith}
use Rattle.std.specs.Option.{option_map, ok_or}
use Rattle.std.specs.List.{Contains, list_any}
use Rattle.std.proofs.lemmas.List.{drop_more, length-append, length-drop, take_at, length_push, get_or_push, get_or_append_left}
use Rattle.std.proofs.lemmas.List.Elements.{Contains-get_or, filter-append}
use Rattle.std.proofs.lemmas.List.Folds.{Any-from_list_any, list_any_at}
use Rattle.std.proofs.lemmas.Bool.{cond-true, cond-false, cond_both, cases_Bool, cases_lt, both_ways, eqb-true, eq-eqb, ltb-true, ltb-false, and_parts, and_from, or_parts}
use Rattle.floor.specs.declared.Cell.{Cell}
use Rattle.sheet.specs.declared.columns.Column.{Column}
use Rattle.sheet.specs.declared.columns.Column.TheVariants as column
use Rattle.sheet.specs.declared.Entry.{Entry}
use Rattle.sheet.specs.declared.Mark.{Mark}
use Rattle.sheet.specs.declared.Mark.TheVariants.{Open, Panel, Device}
use Rattle.sheet.specs.declared.columns.Names.{Names}
use Rattle.sheet.specs.declared.refusals.Refusal.{Refusal}
use Rattle.sheet.specs.declared.refusals.Refusal.TheVariants.{TooLong, ShortList, BadNames, FieldCount, BadField, CellTwice, SecondPanel, NoPanel}
use Rattle.sheet.specs.Format.{lines, fields, three, as_names, as_coordinate, as_mark, entry_at, filled, and_then, entry_of, as_entry}
use Rattle.sheet.specs.Meaning.{Reading, reading, nothing, same_cell, named, same_mark, marked, has_panel, admitted, added, read_on, read_lines, reading_of, answered, over}
use Rattle.sheet.specs.Laws.{EachOnce, Named, Valued}
use Rattle.sheet.specs.Faults.{line_of, field_of, column_at, RightUpTo, FirstWrong, IsValue, WrongField, Earlier, CellTaken, PanelTaken, Fitting, Faulty, Right, Refused}
use Rattle.sheet.proofs.Laws.{names, names_read, values, three_is}
use Rattle.sheet.proofs.Steps.{reads_on, read_stop, read_end}

-- a field

-- a value is set, or what is no value is refused
set_cases : {X : Type 0} (g : X → Entry) (o : Option X) (f : Refusal) (V : Type 0) → ((x : X) → o ≡ Some x → V) → (o ≡ None → V → ⊥) → ((y : Entry) × (ok_or (option_map g o) f ≡ Ok y) × V) ⊎ ((ok_or (option_map g o) f ≡ Err f) × (V → ⊥))
set_cases g None f V is_value not_value = inr (refl, not_value refl)
set_cases g (Some x) f V is_value not_value = inl (g x, refl, is_value x refl)

filled_cases : (c : Column) (bytes : List ℕ) (n k : ℕ) (x : Entry) → ((y : Entry) × (filled c bytes n k x ≡ Ok y) × IsValue c bytes) ⊎ ((filled c bytes n k x ≡ Err (BadField n k)) × (IsValue c bytes → ⊥))
filled_cases column.Row bytes n k x =
    set_cases _ (as_coordinate bytes) (BadField n k) (IsValue column.Row bytes) (λ r is. (entry_at r 0 Open 0, is)) (λ is v. let both : ◌≡◌ {A = Option ℕ} None (Some v.0.cell.row) = sym is ∙ v.1 in cc)
filled_cases column.Col bytes n k x =
    set_cases _ (as_coordinate bytes) (BadField n k) (IsValue column.Col bytes) (λ r is. (entry_at 0 r Open 0, is)) (λ is v. let both : ◌≡◌ {A = Option ℕ} None (Some v.0.cell.col) = sym is ∙ v.1 in cc)
filled_cases column.Mark bytes n k x =
    set_cases _ (as_mark bytes) (BadField n k) (IsValue column.Mark bytes) (λ m is. (entry_at 0 0 m 0, is)) (λ is v. let both : ◌≡◌ {A = Option Mark} None (Some v.0.mark) = sym is ∙ v.1 in cc)

-- the first of three fields that is no value is the one that is told
pub entry_cases : (ns : Names) (n : ℕ) (line a b c : List ℕ) → fields line ≡ a ∷ b ∷ c ∷ [] → ((e : Entry) × (entry_of ns n (a, b, c) ≡ Ok e)) ⊎ ((k : ℕ) × (entry_of ns n (a, b, c) ≡ Err (BadField n k)) × WrongField ns line k)
entry_cases ns n line a b c are = ⊎_elim
    (λ one. ⊎_elim
    (λ two. ⊎_elim
    (λ three. inl (three.0, to_second one.0 one.1 ∙ to_third one.0 two.0 two.1 ∙ three.1))
    (λ three. inr (
      3,
      to_second one.0 one.1 ∙ to_third one.0 two.0 two.1 ∙ three.0,
      record {
        three = long;
        from_one = omega arith;
        to_three = omega arith;
        values_before = λ k low high. ⊎_elim
            (λ first. let at : k ≡ 1 = omega arith in subst (λ j. IsValue (column_at ns j) (field_of line j)) (sym at) (subst (IsValue ns.first) (sym first_is) one.2))
            (λ later. let at : k ≡ 2 = omega arith in subst (λ j. IsValue (column_at ns j) (field_of line j)) (sym at) (subst (IsValue ns.second) (sym second_is) two.2))
            (cases_lt k 2);
        no_value = λ v. three.1 (subst (IsValue ns.third) third_is v);
      },
    ))
    (filled_cases ns.third c n 3 two.0))
    (λ two. inr (
      2,
      to_second one.0 one.1 ∙ ap (λ r. and_then r (λ y. filled ns.third c n 3 y)) two.0,
      record {
        three = long;
        from_one = omega arith;
        to_three = omega arith;
        values_before = λ k low high. let at : k ≡ 1 = omega arith in subst (λ j. IsValue (column_at ns j) (field_of line j)) (sym at) (subst (IsValue ns.first) (sym first_is) one.2);
        no_value = λ v. two.1 (subst (IsValue ns.second) second_is v);
      },
    ))
    (filled_cases ns.second b n 2 one.0))
    (λ one. inr (
      1,
      ap (λ r. and_then r (λ x. and_then (filled ns.second b n 2 x) (λ y. filled ns.third c n 3 y))) one.0,
      record {
        three = long;
        from_one = omega arith;
        to_three = omega arith;
        values_before = λ k low high. absurd (omega arith);
        no_value = λ v. one.1 (subst (IsValue ns.first) first_is v);
      },
    ))
    (filled_cases ns.first a n 1 (entry_at 0 0 Open n))
  where
    to_second : (x : Entry) → filled ns.first a n 1 (entry_at 0 0 Open n) ≡ Ok x → entry_of ns n (a, b, c) ≡ and_then (filled ns.second b n 2 x) (λ y. filled ns.third c n 3 y)
    to_second x is = ap (λ r. and_then r (λ x. and_then (filled ns.second b n 2 x) (λ y. filled ns.third c n 3 y))) is

    to_third : (x y : Entry) → filled ns.second b n 2 x ≡ Ok y → and_then (filled ns.second b n 2 x) (λ y. filled ns.third c n 3 y) ≡ filled ns.third c n 3 y
    to_third x y is = ap (λ r. and_then r (λ y. filled ns.third c n 3 y)) is

    long : length (fields line) ≡ 3
    long = ap length are

    first_is : field_of line 1 ≡ a
    first_is = ap (λ fs. get_or fs 0 []) are

    second_is : field_of line 2 ≡ b
    second_is = ap (λ fs. get_or fs 1 []) are

    third_is : field_of line 3 ≡ c
    third_is = ap (λ fs. get_or fs 2 []) are

-- a line

-- what is wrong with line n, after the entries of the lines before it
LineFault : ℕ → List Entry → Names → List ℕ → Refusal → Type 0
LineFault n es ns line TooLong = ⊥
LineFault n es ns line ShortList = ⊥
LineFault n es ns line BadNames = ⊥
LineFault n es ns line (FieldCount l) = (l ≡ n) × (length (fields line) ≡ 3 → ⊥)
LineFault n es ns line (BadField l k) = (l ≡ n) × WrongField ns line k
LineFault n es ns line (CellTwice l) = (l ≡ n) × CellTaken n es ns line
LineFault n es ns line (SecondPanel l) = (l ≡ n) × PanelTaken n es ns line
LineFault n es ns line NoPanel = ⊥

not_three : {X : Type 0} (xs : List X) → three xs ≡ None → length xs ≡ 3 → ⊥
not_three [] h l = omega arith
not_three (a ∷ []) h l = omega arith
not_three (a ∷ b ∷ []) h l = omega arith
not_three (a ∷ b ∷ c ∷ []) h l = cc
not_three (a ∷ b ∷ c ∷ d ∷ more) h l = omega arith

as_entry_cases : (ns : Names) (n : ℕ) (es : List Entry) (line : List ℕ) → EachOnce ns → ((e : Entry) × (as_entry ns n line ≡ Ok e) × Valued line ns n e) ⊎ ((f : Refusal) × (as_entry ns n line ≡ Err f) × LineFault n es ns line f)
unfolding LineFault
as_entry_cases ns n es line distinct = at (three (fields line)) refl where
  at : (o : Option (List ℕ × List ℕ × List ℕ)) → three (fields line) ≡ o → ((e : Entry) × (as_entry ns n line ≡ Ok e) × Valued line ns n e) ⊎ ((f : Refusal) × (as_entry ns n line ≡ Err f) × LineFault n es ns line f)
  at None is = inr (FieldCount n, ap (λ o. elim o [ None ↦ Err (FieldCount n) | Some f ↦ entry_of ns n f ]) is, (refl, not_three (fields line) is))
  at (Some f) is =
      let reads : as_entry ns n line ≡ entry_of ns n f = ap (λ o. elim o [ None ↦ Err (FieldCount n) | Some f ↦ entry_of ns n f ]) is in
      ⊎_elim
      (λ good. let so : as_entry ns n line ≡ Ok good.0 = reads ∙ good.1 in inl (good.0, so, values line ns n good.0 distinct so))
      (λ bad. inr (BadField n bad.0, reads ∙ bad.1, (refl, bad.2)))
      (entry_cases ns n line f.0 f.1 f.2 (three_is (fields line) f is))

-- cells and marks that are one

pub cell_is : (a b : Cell) → same_cell a b ≡ true → a ≡ b
cell_is a b same =
    let p = and_parts _ _ same in
    λ i. record { row = eqb-true a.row b.row p.0 i; col = eqb-true a.col b.col p.1 i }

pub cell_same : (a b : Cell) → a ≡ b → same_cell a b ≡ true
cell_same a b is = and_from _ _ (eq-eqb a.row b.row (ap (λ (c : Cell). c.row) is)) (eq-eqb a.col b.col (ap (λ (c : Cell). c.col) is))

pub mark_is : (m : Mark) → same_mark m Panel ≡ true → m ≡ Panel
mark_is Open same = cc
mark_is Panel same = refl
mark_is Device same = cc

pub mark_same : (m : Mark) → m ≡ Panel → same_mark m Panel ≡ true
mark_same m is = ap (λ x. same_mark x Panel) is

-- an entry that passes a test is found, and one that does not is not
module _ (test : Entry → Bool) (P : Entry → Type 0) (n : ℕ) (es : List Entry) (below : (e : Entry) → Contains es e → e.line < n) where
  pub found : ((e : Entry) → test e ≡ true → P e) → list_any test es ≡ true → Earlier n es P
  found says one =
      let a = Any-from_list_any test es one in
      let in_es : Contains es a.1 = (a.0, a.2, a.3) in
      (a.1, in_es, below a.1 in_es, says a.1 a.4)

  pub absent : ((e : Entry) → P e → test e ≡ true) → list_any test es ≡ false → (e : Entry) → Contains es e → P e → ⊥
  absent says none e inside p = both_ways _ none (list_any_at test es inside.0 e inside.1 (says _ (subst P (sym inside.2) p)))

-- what a line adds: its entry, of a new cell and not a second panel, or its fault
added_cases : (ns : Names) (n : ℕ) (es : List Entry) (line : List ℕ) → EachOnce ns → ((e : Entry) → Contains es e → e.line < n) →
    ((e : Entry) × (added ns n es line ≡ Ok e) × Valued line ns n e × (named e.cell es ≡ false) × ((same_mark e.mark Panel && has_panel es) ≡ false))
    ⊎ ((f : Refusal) × (added ns n es line ≡ Err f) × LineFault n es ns line f)
unfolding LineFault
added_cases ns n es line distinct below =
    ⊎_elim
    (λ good.
    let e = good.0 in
    let reads : added ns n es line ≡ admitted es e = ap (λ r. and_then r (admitted es)) good.1 in
    ⊎_elim
    (λ taken. inr (CellTwice e.line, reads ∙ cond-true _ _ _ taken, (good.2.numbered, (e, good.2, found (λ d. same_cell d.cell e.cell) (λ d. d.cell ≡ e.cell) n es below (λ d. cell_is d.cell e.cell) taken))))
    (λ fresh. ⊎_elim
    (λ second.
    let p = and_parts _ _ second in
    inr (
      SecondPanel e.line,
      reads ∙ cond-false _ _ _ fresh ∙ cond-true _ _ _ second,
      (
        good.2.numbered,
        (
          e,
          good.2,
          (λ t. absent (λ d. same_cell d.cell e.cell) (λ d. d.cell ≡ e.cell) n es below (λ d. cell_same d.cell e.cell) fresh t.0 t.1 t.3),
          mark_is e.mark p.0,
          found (λ d. same_mark d.mark Panel) (λ d. d.mark ≡ Panel) n es below (λ d. mark_is d.mark) p.1,
        ),
      ),
    ))
    (λ single. inl (e, reads ∙ cond-false _ _ _ fresh ∙ cond-false _ _ _ single, good.2, fresh, single))
    (cases_Bool (same_mark e.mark Panel && has_panel es)))
    (cases_Bool (named e.cell es)))
    (λ bad. inr (bad.0, ap (λ r. and_then r (admitted es)) bad.1, bad.2))
    (as_entry_cases ns n es line distinct)

-- right lines

-- how many panels there are, where a test finds none or one
pub no_panels : (es : List Entry) → has_panel es ≡ false → length (marked Panel es) ≡ 0
no_panels [] none = refl
no_panels (e ∷ es) none =
    let p = or_parts (same_mark e.mark Panel) (has_panel es) none in
    ap length (cond-false (same_mark e.mark Panel) (e ∷ marked Panel es) (marked Panel es) p.0) ∙ no_panels es p.1

pub some_panel : (es : List Entry) → has_panel es ≡ true → 1 ≤ length (marked Panel es)
some_panel [] one = cc
some_panel (e ∷ es) one = by (same_mark e.mark Panel) one (some_panel es) where
  by : (t : Bool) → (t || has_panel es) ≡ true → (has_panel es ≡ true → 1 ≤ length (marked Panel es)) → 1 ≤ length (cond t (e ∷ marked Panel es) (marked Panel es))
  by true h more = omega arith
  by false h more = more h

-- a panel more, if there was none
panels_more : (es : List Entry) (e : Entry) → length (marked Panel es) ≤ 1 → (same_mark e.mark Panel && has_panel es) ≡ false → length (marked Panel (es ++ e ∷ [])) ≤ 1
panels_more es e few single =
    subst (λ n. n ≤ 1) (sym (ap length (filter-append (λ x. same_mark x.mark Panel) es (e ∷ [])) ∙ length-append (marked Panel es) (marked Panel (e ∷ []))))
    (by (same_mark e.mark Panel) (has_panel es) refl single)
  where
    by : (p q : Bool) → has_panel es ≡ q → (p && q) ≡ false → length (marked Panel es) + length (cond p (e ∷ []) []) ≤ 1
    by true true is s = cc
    by true false is s = let none = no_panels es is in omega arith
    by false q is s = omega arith

module _ {text : List ℕ} {n : ℕ} {ns : Names} {es : List Entry} (h : RightUpTo text n ns es) where
  -- the entries are of lines up to n
  pub lines_below : (e : Entry) → Contains es e → e.line < n + 1
  lines_below e inside =
      let is : e.line ≡ inside.0 + 2 = ap (λ (x : Entry). x.line) (sym inside.2) ∙ (h.valued inside.0 e inside.1).numbered in
      let many = h.many in
      let short = inside.1 in
      omega arith

  -- and one line more
  right_more : (e : Entry) → n < length (lines text) → Valued (line_of text (n + 1)) ns (n + 1) e → named e.cell es ≡ false → (same_mark e.mark Panel && has_panel es) ≡ false → RightUpTo text (n + 1) ns (es ++ e ∷ [])
  right_more e more says fresh single =
      let many = h.many in
      let long = length_push es e in
      record {
        there = omega arith;
        many = omega arith;
        named = h.named;
        valued = λ i d low. ⊎_elim
            (λ before. subst (Valued (line_of text (i + 2)) ns (i + 2)) (sym (get_or_append_left es (e ∷ []) d i before)) (h.valued i d before))
            (λ past.
            let last : length es ≡ i = omega arith in
            let number : n + 1 ≡ i + 2 = omega arith in
            subst (Valued (line_of text (i + 2)) ns (i + 2)) (sym (get_or_push es e d i last)) (subst (λ k. Valued (line_of text k) ns k e) number says))
            (cases_lt i (length es));
        apart = λ i j d before low. ⊎_elim
            (λ inside. λ same.
            let i_in : i < length es = omega arith in
            h.apart i j d before inside (ap (λ (x : Entry). x.cell) (sym (get_or_append_left es (e ∷ []) d i i_in)) ∙ same ∙ ap (λ (x : Entry). x.cell) (get_or_append_left es (e ∷ []) d j inside)))
            (λ past. λ same.
            let last : length es ≡ j = omega arith in
            let i_in : i < length es = omega arith in
            absent (λ x. same_cell x.cell e.cell) (λ x. x.cell ≡ e.cell) (n + 1) es lines_below (λ x. cell_same x.cell e.cell) fresh (get_or es i d) (Contains-get_or es i d i_in)
            (ap (λ (x : Entry). x.cell) (sym (get_or_append_left es (e ∷ []) d i i_in)) ∙ same ∙ ap (λ (x : Entry). x.cell) (get_or_push es e d j last)))
            (cases_lt j (length es));
        panels = panels_more es e h.panels single;
      }

-- line 1 is right, before any entry
right_first : (text : List ℕ) (ns : Names) → Named (line_of text 1) ns → 1 ≤ length (lines text) → RightUpTo text 1 ns []
right_first text ns named there =
    record {
      there = there;
      many = refl;
      named = named;
      valued = λ i d low. absurd (omega arith);
      apart = λ i j d before low. absurd (omega arith);
      panels = omega arith;
    }

-- what a reading says of a text
abbrev pub Says : List ℕ → ℕ → Reading → Type 0
Says text room r = MatchOption r.fault (Fitting text room × Right text r.meant) (Faulty text room r.meant)

-- line n + 1 is the first that is wrong, by its own number
at_line : (text : List ℕ) (ns : Names) (n : ℕ) (es : List Entry) (l : ℕ) (Wrong : Names → List ℕ → Type 0) → RightUpTo text n ns es → n < length (lines text) → l ≡ n + 1 → Wrong ns (line_of text (n + 1)) → FirstWrong text l es Wrong
at_line text ns n es l Wrong h more is bad =
    let back : n ≡ l - 1 = omega arith in
    record { names = ns; right = subst (λ k. RightUpTo text k ns es) back h; there = omega arith; wrong = subst (λ k. Wrong ns (line_of text k)) (sym is) bad }

module _ (text : List ℕ) (room : ℕ) (fits : Fitting text room) where
  -- a line's fault is the text's, if the lines before it are right
  line_faulty : (ns : Names) (n : ℕ) (es : List Entry) (f : Refusal) → RightUpTo text n ns es → n < length (lines text) → LineFault (n + 1) es ns (line_of text (n + 1)) f → Faulty text room es f
  unfolding LineFault
  line_faulty ns n es TooLong h more bad = absurd bad
  line_faulty ns n es ShortList h more bad = absurd bad
  line_faulty ns n es BadNames h more bad = absurd bad
  line_faulty ns n es (FieldCount l) h more bad = (fits, at_line text ns n es l (λ ns line. length (fields line) ≡ 3 → ⊥) h more bad.0 bad.1)
  line_faulty ns n es (BadField l k) h more bad = (fits, at_line text ns n es l (λ ns line. WrongField ns line k) h more bad.0 bad.1)
  line_faulty ns n es (CellTwice l) h more bad = (fits, at_line text ns n es l (CellTaken l es) h more bad.0 (subst (λ k. CellTaken k es ns (line_of text (n + 1))) (sym bad.0) bad.1))
  line_faulty ns n es (SecondPanel l) h more bad = (fits, at_line text ns n es l (PanelTaken l es) h more bad.0 (subst (λ k. PanelTaken k es ns (line_of text (n + 1))) (sym bad.0) bad.1))
  line_faulty ns n es NoPanel h more bad = absurd bad

  -- what is left to read, after the right lines up to n, ends so
  reads : (left : List (List ℕ)) (ns : Names) (n : ℕ) (es : List Entry) → RightUpTo text n ns es → drop n (lines text) ≡ left → Says text room (read_on ns (n + 1) es left)
  reads [] ns n es h is = subst (Says text room) (sym (read_end ns (n + 1) es)) (by (has_panel es) refl)
    where
      all : n ≡ length (lines text)
      all = let none = ap length is in let there = h.there in let drops = length-drop n (lines text) in omega arith

      by : (t : Bool) → has_panel es ≡ t → Says text room (reading es (cond t None (Some NoPanel)))
      by true one = let some = some_panel es one in let few = h.panels in (fits, record { names = ns; right = subst (λ k. RightUpTo text k ns es) all h; panel = omega arith })
      by false none = (fits, (ns, subst (λ k. RightUpTo text k ns es) all h), λ i d low is. absent (λ x. same_mark x.mark Panel) (λ x. x.mark ≡ Panel) (n + 1) es (lines_below h) (λ x. mark_same x.mark) none (get_or es i d) (Contains-get_or es i d low) is)
  reads (line ∷ left) ns n es h is =
      ⊎_elim
      (λ good.
      subst (Says text room) (sym (reads_on ns (n + 1) es line left good.0 good.1))
      (reads left ns (n + 1) (es ++ good.0 ∷ []) (right_more h good.0 more (subst (λ l. Valued l ns (n + 1) good.0) (sym this) good.2) good.3 good.4) rest))
      (λ bad. subst (Says text room) (sym (read_stop ns (n + 1) es line left bad.0 bad.1)) (line_faulty ns n es bad.0 h more (subst (λ l. LineFault (n + 1) es ns l bad.0) (sym this) bad.2)))
      (added_cases ns (n + 1) es line h.named.each_once (lines_below h))
    where
      more : n < length (lines text)
      more = let some : length (lines text) - n ≡ length (line ∷ left) = sym (length-drop n (lines text)) ∙ ap length is in omega arith

      parts : line_of text (n + 1) ∷ drop (n + 1) (lines text) ≡ line ∷ left
      parts = (let back : n ≡ n + 1 - 1 = omega arith in subst (λ k. get_or (lines text) k [] ∷ drop (n + 1) (lines text) ≡ line ∷ left) back (sym (drop_more (lines text) n [] more) ∙ is))

      this : line_of text (n + 1) ≡ line
      this = cc parts

      rest : drop (n + 1) (lines text) ≡ left
      rest = cc parts

  -- the whole of the lines
  reads_lines : (ls : List (List ℕ)) → lines text ≡ ls → Says text room (read_lines ls)
  reads_lines [] is = (fits, (λ ns named. let none = sym (names_read _ ns named) ∙ ap (λ ls. as_names (get_or ls 0 [])) is in cc), refl)
  reads_lines (line ∷ more) is = by (as_names line) refl where
    this : line_of text 1 ≡ line
    this = ap (λ ls. get_or ls 0 []) is

    by : (o : Option Names) → as_names line ≡ o → Says text room (elim o [ None ↦ nothing BadNames | Some ns ↦ read_on ns 2 [] more ])
    by None none = (fits, (λ ns named. let two : ◌≡◌ {A = Option Names} None (Some ns) = sym none ∙ ap as_names (sym this) ∙ names_read _ ns named in cc), refl)
    by (Some ns) good = reads more ns 1 [] (right_first text ns (subst (λ l. Named l ns) (sym this) (names line ns good)) (let long = ap length is in omega arith)) (ap (drop 1) is)

-- whatever the text and the room
pub says : (text : List ℕ) (room : ℕ) → Says text room (reading_of text room)
says text room =
    cond_both (ltb 4096 (length text)) _ _ (Says text room) (λ long. (ltb-true 4096 (length text) long, refl))
    (λ short. cond_both (ltb room 256) _ _ (Says text room) (λ small. (ltb-false 4096 (length text) short, ltb-true room 256 small, refl))
    (λ wide. reads_lines text room (ltb-false 4096 (length text) short, ltb-false room 256 wide) (lines text) refl))

-- so it is answered, and so the list is left
module _ (text : List ℕ) (old new : List Entry) where
  abbrev Answered : Result ℕ Refusal → Type 0
  Answered r = IfOk r (λ n. Right text (take n new)) × IfErr r (Refused text old new)

  answered_so : (es : List Entry) (f : Option Refusal) → Says text (length old) (reading es f) → new ≡ over es old → Answered (answered (reading es f))
  answered_so es None h list = (subst (Right text) (sym (ap (take (length es)) list ∙ take_at es (drop (length es) old) _ refl)) h.1, tt)
  answered_so es (Some f) h list = (tt, (es, h, list))

  pub as_read : (r : Result ℕ Refusal) → r ≡ answered (reading_of text (length old)) → new ≡ over (reading_of text (length old)).meant old → IfOk r (λ n. Right text (take n new)) × IfErr r (Refused text old new)
  as_read r is list = subst Answered (sym is) (answered_so (reading_of text (length old)).meant (reading_of text (length old)).fault (says text (length old)) list)
