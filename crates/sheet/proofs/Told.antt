-- The other way: right lines are read one after another, so that what stands behind them is what is told.
use Rattle.std.proofs.Common.{◌≡◌, ℕ, zero, suc, ◌+◌, ◌-◌, ◌<◌, ◌≤◌, Bool, true, cond, ◌&&◌, List, [], ◌∷◌, ◌++◌, length, get_or, take, drop, Some, None, Ok, Err, Option, sym, refl, ap, ◌∙◌, subst, ⊎_elim, arith}
use Rattle.std.specs.List.{Contains, list_any}
use Rattle.std.proofs.lemmas.List.{drop_more, take_more, take-append-drop, get_or-take, get_or_default, take_all, length-take-le, length-append}
use Rattle.std.proofs.lemmas.List.Elements.{filter-append}
use Rattle.std.proofs.lemmas.List.Folds.{Any-from_list_any, list_any_at}
use Rattle.std.proofs.lemmas.Bool.{cond-true, cond-false, false_from_ne_true, true_from_ne_false, cases_lt, cases_order, lt-ltb, le-ltb, and_parts, and_from}
use Rattle.sheet.specs.declared.Entry.{Entry}
use Rattle.sheet.specs.declared.Mark.TheVariants.{Open, Panel}
use Rattle.sheet.specs.declared.columns.Names.{Names}
use Rattle.sheet.specs.declared.refusals.Refusal.{Refusal}
use Rattle.sheet.specs.declared.refusals.Refusal.TheVariants.{TooLong, ShortList, BadNames, FieldCount, BadField, CellTwice, SecondPanel, NoPanel}
use Rattle.sheet.specs.Format.{lines, fields, three, as_names, entry_at, and_then, entry_of, as_entry}
use Rattle.sheet.specs.Meaning.{reading, nothing, same_cell, named, same_mark, marked, has_panel, admitted, added, read_on, read_lines, reading_of}
use Rattle.sheet.specs.Laws.{Holds, EachOnce, Named, Valued}
use Rattle.sheet.specs.Faults.{line_of, field_of, column_at, RightUpTo, FirstWrong, IsValue, WrongField, Earlier, CellTaken, PanelTaken, Fitting, Faulty, Right}
use Rattle.sheet.proofs.Laws.{names, names_read, values, values_read}
use Rattle.sheet.proofs.Steps.{reads_on, read_stop, read_end}
use Rattle.sheet.proofs.Faulted.{cell_is, cell_same, mark_is, mark_same, found, entry_cases, no_panels, some_panel, lines_below}

-- a default, for what is within
none : Entry
none = entry_at 0 0 Open 0

marked_part : (k : ℕ) (es : List Entry) → length (marked Panel (take k es)) ≤ length (marked Panel es)
marked_part k es =
    let whole : length (marked Panel es) ≡ length (marked Panel (take k es)) + length (marked Panel (drop k es)) = ap (λ l. length (marked Panel l)) (sym (take-append-drop k es)) ∙ ap length (filter-append (λ x. same_mark x.mark Panel) (take k es) (drop k es)) ∙ length-append (marked Panel (take k es)) (marked Panel (drop k es)) in
    omega arith

marked_push : (es : List Entry) (e : Entry) → same_mark e.mark Panel ≡ true → length (marked Panel (es ++ e ∷ [])) ≡ length (marked Panel es) + 1
marked_push es e is =
    let test : Entry → Bool = λ x. same_mark x.mark Panel in
    ap length (filter-append test es (e ∷ [])) ∙ length-append (marked Panel es) (marked Panel (e ∷ []))
    ∙ ap (λ (l : List Entry). length (marked Panel es) + length l) (cond-true (same_mark e.mark Panel) (e ∷ []) [] is)

module _ {text : List ℕ} {n : ℕ} {ns : Names} {es : List Entry} (h : RightUpTo text n ns es) where
  -- an entry is admitted after those before it
  admits : (k : ℕ) → k < length es → admitted (take k es) (get_or es k none) ≡ Ok (get_or es k none)
  admits k inside = cond-false _ _ _ (false_from_ne_true _ fresh) ∙ cond-false _ _ _ (false_from_ne_true _ single)
    where
      fresh : named (get_or es k none).cell (take k es) ≡ true → ⊥
      fresh taken =
          let a = Any-from_list_any (λ x. same_cell x.cell (get_or es k none).cell) (take k es) taken in
          let before : a.0 < k = (let low = a.2 in let l = length-take-le k es (omega arith) in omega arith) in
          h.apart a.0 k none before inside
          (cell_is _ _ (subst (λ (x : Entry). same_cell x.cell (get_or es k none).cell ≡ true) (sym a.3 ∙ get_or-take k es a.0 a.1 before ∙ same a.0 a.1 (omega arith)) a.4))
        where
          same : (i : ℕ) (d : Entry) → i < length es → get_or es i d ≡ get_or es i none
          same i d low = get_or_default es i d none low

      single : (same_mark (get_or es k none).mark Panel && has_panel (take k es)) ≡ true → ⊥
      single both =
          let p = and_parts _ _ both in
          let before = some_panel (take k es) p.1 in
          let more : length (marked Panel (take (k + 1) es)) ≡ length (marked Panel (take k es)) + 1 = ap (λ l. length (marked Panel l)) (take_more es k none inside) ∙ marked_push (take k es) (get_or es k none) p.0 in
          let part = marked_part (k + 1) es in
          let few = h.panels in
          omega arith

  -- its line adds it
  adds : (k : ℕ) → k < length es → added ns (k + 2) (take k es) (line_of text (k + 2)) ≡ Ok (get_or es k none)
  adds k inside = ap (λ r. and_then r (admitted (take k es))) (values_read _ ns (k + 2) _ h.named.each_once (h.valued k none inside)) ∙ admits k inside

  -- after so many entries, the rest is left to read
  walk : (k : ℕ) → k ≤ length es → read_lines (lines text) ≡ read_on ns (k + 2) (take k es) (drop (k + 1) (lines text))
  walk zero low =
      ap read_lines (drop_more (lines text) 0 [] (let there = h.there in let many = h.many in omega arith))
      ∙ ap (λ o. elim o [ None ↦ nothing BadNames | Some ns ↦ read_on ns 2 [] (drop 1 (lines text)) ]) (names_read _ ns h.named)
  walk (suc k) low =
      let there = h.there in
      let many = h.many in
      let more : k + 1 < length (lines text) = omega arith in
      let inside : k < length es = omega arith in
      let number : k + 1 ≡ k + 2 - 1 = omega arith in
      let left : drop (k + 1) (lines text) ≡ line_of text (k + 2) ∷ drop (k + 1 + 1) (lines text) = drop_more (lines text) (k + 1) [] more ∙ ap (λ i. get_or (lines text) i [] ∷ drop (k + 1 + 1) (lines text)) number in
      let next : k + 2 + 1 ≡ suc k + 2 = omega arith in
      let one : k + 1 ≡ suc k = omega arith in
      walk k (omega arith) ∙ ap (read_on ns (k + 2) (take k es)) left ∙ reads_on ns (k + 2) (take k es) _ _ (get_or es k none) (adds k inside)
      ∙ ap (λ l. read_on ns (k + 2 + 1) l (drop (k + 1 + 1) (lines text))) (sym (take_more es k none inside))
      ∙ (λ i. read_on ns (next i) (take (one i) es) (drop (one i + 1) (lines text)))

  pub right_reads : read_lines (lines text) ≡ read_on ns (n + 1) es (drop n (lines text))
  right_reads =
      let many = h.many in
      let number : length es + 2 ≡ n + 1 = omega arith in
      walk (length es) (omega arith) ∙ (λ i. read_on ns (number i) (take_all (length es) es (omega arith) i) (drop (many i) (lines text)))

-- the texts that are read: what decides is what stands after the right lines
module _ (text : List ℕ) (room : ℕ) (fits : Fitting text room) where
  whole : reading_of text room ≡ read_lines (lines text)
  whole = cond-false _ _ _ (le-ltb 4096 (length text) fits.0) ∙ cond-false _ _ _ (le-ltb room 256 fits.1)

  all_read : (ns : Names) (es : List Entry) → RightUpTo text (length (lines text)) ns es → reading_of text room ≡ reading es (cond (has_panel es) None (Some NoPanel))
  all_read ns es h = whole ∙ right_reads h ∙ ap (read_on ns (length (lines text) + 1) es) (drop_end (lines text)) ∙ read_end ns (length (lines text) + 1) es
    where
      drop_end : (ls : List (List ℕ)) → drop (length ls) ls ≡ []
      drop_end [] = refl
      drop_end (l ∷ ls) = drop_end ls

  stopped : (n : ℕ) (es : List Entry) (f : Refusal) (Wrong : Names → List ℕ → Type 0) (w : FirstWrong text n es Wrong) → added w.names n es (line_of text n) ≡ Err f → reading_of text room ≡ reading es (Some f)
  stopped n es f Wrong w ends =
      let many = w.right.many in
      let there = w.there in
      let number : n - 1 + 1 ≡ n = omega arith in
      let more : n - 1 < length (lines text) = omega arith in
      whole ∙ right_reads w.right ∙ ap (λ k. read_on w.names k es (drop (n - 1) (lines text))) number
      ∙ ap (read_on w.names n es) (drop_more (lines text) (n - 1) [] more) ∙ read_stop w.names n es (line_of text n) _ f ends

-- fewer or more than three fields
three_none : {X : Type 0} (xs : List X) → (length xs ≡ 3 → ⊥) → three xs ≡ None
three_none [] h = refl
three_none (a ∷ []) h = refl
three_none (a ∷ b ∷ []) h = refl
three_none (a ∷ b ∷ c ∷ []) h = absurd (h refl)
three_none (a ∷ b ∷ c ∷ d ∷ more) h = refl

three_there : {X : Type 0} (xs : List X) → length xs ≡ 3 → (a b c : X) × (xs ≡ a ∷ b ∷ c ∷ [])
three_there [] l = absurd (omega arith)
three_there (a ∷ []) l = absurd (omega arith)
three_there (a ∷ b ∷ []) l = absurd (omega arith)
three_there (a ∷ b ∷ c ∷ []) l = (a, b, c, refl)
three_there (a ∷ b ∷ c ∷ d ∷ more) l = absurd (omega arith)

-- each field of a line that is right is a value
valued_fields : (ns : Names) (n : ℕ) (line : List ℕ) (e : Entry) → Valued line ns n e → (k : ℕ) → 1 ≤ k → k ≤ 3 → IsValue (column_at ns k) (field_of line k)
valued_fields ns n line e v k low high =
    ⊎_elim
    (λ one. at 1 (omega arith) (e, subst (λ fs. Holds ns.first (get_or fs 0 []) e) (sym v.three) v.holds_first))
    (λ past. ⊎_elim
    (λ two. at 2 (omega arith) (e, subst (λ fs. Holds ns.second (get_or fs 1 []) e) (sym v.three) v.holds_second))
    (λ three. at 3 (omega arith) (e, subst (λ fs. Holds ns.third (get_or fs 2 []) e) (sym v.three) v.holds_third))
    (cases_lt k 3))
    (cases_lt k 2)
  where
    at : (j : ℕ) → j ≡ k → IsValue (column_at ns j) (field_of line j) → IsValue (column_at ns k) (field_of line k)
    at j is = subst (λ j. IsValue (column_at ns j) (field_of line j)) is

-- a line has one first field that is wrong
one_wrong : (ns : Names) (line : List ℕ) (j k : ℕ) → WrongField ns line j → WrongField ns line k → j ≡ k
one_wrong ns line j k a b =
    ⊎_elim (λ same. same)
    (λ other. ⊎_elim (λ before. absurd (a.no_value (b.values_before j a.from_one before))) (λ past. absurd (b.no_value (a.values_before k b.from_one past))) other)
    (cases_order j k)

-- the fault of a line is what it is refused for
module _ (ns : Names) (n : ℕ) (es : List Entry) (line : List ℕ) (distinct : EachOnce ns) where
  count_told : (length (fields line) ≡ 3 → ⊥) → added ns n es line ≡ Err (FieldCount n)
  count_told wrong = ap (λ o. and_then (elim o [ None ↦ Err (FieldCount n) | Some f ↦ entry_of ns n f ]) (admitted es)) (three_none (fields line) wrong)

  field_told : (k : ℕ) → WrongField ns line k → added ns n es line ≡ Err (BadField n k)
  field_told k wrong =
      let t = three_there (fields line) wrong.three in
      let reads : as_entry ns n line ≡ entry_of ns n (t.0, t.1, t.2) = ap (λ fs. elim (three fs) [ None ↦ Err (FieldCount n) | Some f ↦ entry_of ns n f ]) t.3 in
      ap (λ r. and_then r (admitted es))
      (⊎_elim
      (λ good. absurd (wrong.no_value (valued_fields ns n line good.0 (values line ns n good.0 distinct (reads ∙ good.1)) k wrong.from_one wrong.to_three)))
      (λ bad. reads ∙ bad.1 ∙ ap (λ j. Err (BadField n j)) (one_wrong ns line bad.0 k bad.2 wrong))
      (entry_cases ns n line t.0 t.1 t.2 t.3))

  module _ (below : (e : Entry) → Contains es e → e.line < n) where
    says : (e : Entry) → Valued line ns n e → added ns n es line ≡ admitted es e
    says e v = ap (λ r. and_then r (admitted es)) (values_read line ns n e distinct v)

    taken : (test : Entry → Bool) (P : Entry → Type 0) → ((e : Entry) → P e → test e ≡ true) → Earlier n es P → list_any test es ≡ true
    taken test P passes w = list_any_at test es w.1.0 w.0 w.1.1 (passes _ (subst P (sym w.1.2) w.3))

    cell_told : CellTaken n es ns line → added ns n es line ≡ Err (CellTwice n)
    cell_told w =
        says w.0 w.1 ∙ cond-true _ _ _ (taken (λ d. same_cell d.cell w.0.cell) (λ d. d.cell ≡ w.0.cell) (λ d. cell_same d.cell w.0.cell) w.2)
        ∙ ap (λ l. Err (CellTwice l)) w.1.numbered

    panel_told : PanelTaken n es ns line → added ns n es line ≡ Err (SecondPanel n)
    panel_told w =
        says w.0 w.1
        ∙ cond-false _ _ _ (false_from_ne_true _ (λ one. w.2 (found (λ d. same_cell d.cell w.0.cell) (λ d. d.cell ≡ w.0.cell) n es below (λ d. cell_is d.cell w.0.cell) one)))
        ∙ cond-true _ _ _ (and_from _ _ (mark_same w.0.mark w.3) (taken (λ d. same_mark d.mark Panel) (λ d. d.mark ≡ Panel) (λ d. mark_same d.mark) w.4))
        ∙ ap (λ l. Err (SecondPanel l)) w.1.numbered

-- the entries before line n are of lines before it
below_number : (text : List ℕ) (n : ℕ) (es : List Entry) (Wrong : Names → List ℕ → Type 0) (w : FirstWrong text n es Wrong) → (e : Entry) → Contains es e → e.line < n
below_number text n es Wrong w e inside = let low = lines_below w.right e inside in let many = w.right.many in omega arith

-- there is a panel
has_one : (es : List Entry) → length (marked Panel es) ≡ 1 → has_panel es ≡ true
has_one es one = true_from_ne_false _ (λ without. let zero_of = no_panels es without in omega arith)

pub right_read : (text : List ℕ) (room : ℕ) (es : List Entry) → Fitting text room → Right text es → reading_of text room ≡ reading es None
right_read text room es fits h = all_read text room fits h.names es h.right ∙ ap (λ t. reading es (cond t None (Some NoPanel))) (has_one es h.panel)

pub fault_told : (text : List ℕ) (room : ℕ) (es : List Entry) (f : Refusal) → Faulty text room es f → reading_of text room ≡ reading es (Some f)
fault_told text room es TooLong w = cond-true _ _ _ (lt-ltb 4096 (length text) w.0) ∙ ap (λ l. reading l (Some TooLong)) (sym w.1)
fault_told text room es ShortList w =
    cond-false _ _ _ (le-ltb 4096 (length text) w.0) ∙ cond-true _ _ _ (lt-ltb room 256 w.1) ∙ ap (λ l. reading l (Some ShortList)) (sym w.2)
fault_told text room es BadNames w = whole text room w.0 ∙ by (lines text) w.1 ∙ ap (λ l. reading l (Some BadNames)) (sym w.2)
  where
    by : (ls : List (List ℕ)) → ((ns : Names) → Named (get_or ls 0 []) ns → ⊥) → read_lines ls ≡ nothing BadNames
    by [] unnamed = refl
    by (line ∷ more) unnamed = at (as_names line) refl where
      at : (o : Option Names) → as_names line ≡ o → elim o [ None ↦ nothing BadNames | Some ns ↦ read_on ns 2 [] more ] ≡ nothing BadNames
      at None is = refl
      at (Some ns) is = absurd (unnamed ns (names line ns is))
fault_told text room es (FieldCount n) w =
    stopped text room w.0 n es _ (λ ns line. length (fields line) ≡ 3 → ⊥) w.1 (count_told w.1.names n es (line_of text n) w.1.right.named.each_once w.1.wrong)
fault_told text room es (BadField n k) w =
    stopped text room w.0 n es _ (λ ns line. WrongField ns line k) w.1 (field_told w.1.names n es (line_of text n) w.1.right.named.each_once k w.1.wrong)
fault_told text room es (CellTwice n) w =
    stopped text room w.0 n es _ (CellTaken n es) w.1 (cell_told w.1.names n es (line_of text n) w.1.right.named.each_once (below_number text n es _ w.1) w.1.wrong)
fault_told text room es (SecondPanel n) w =
    stopped text room w.0 n es _ (PanelTaken n es) w.1 (panel_told w.1.names n es (line_of text n) w.1.right.named.each_once (below_number text n es _ w.1) w.1.wrong)
fault_told text room es NoPanel w =
    all_read text room w.0 w.1.0 es w.1.1 ∙ ap (λ t. reading es (cond t None (Some NoPanel))) (false_from_ne_true (has_panel es) some)
  where
    some : has_panel es ≡ true → ⊥
    some one = let a = Any-from_list_any (λ e. same_mark e.mark Panel) es one in w.2 a.0 a.1 a.2 (subst (λ (x : Entry). x.mark ≡ Panel) (sym a.3) (mark_is _ a.4))
