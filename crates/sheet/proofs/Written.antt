-- What is written of entries has right lines: the fields have no separators, and so the lines and the fields are found again.
use Rattle.std.proofs.Common.{◌≡◌, ◌≢◌, ℕ, suc, ◌+◌, ◌-◌, ◌*◌, ◌<◌, ◌≤◌, List, [], ◌∷◌, ◌++◌, map, length, get_or, None, decimal, sym, refl, ap, ◌∙◌, subst, ⊎_elim, arith}
use Rattle.std.specs.List.{AllByRecursion, join_with_byte}
use Rattle.std.proofs.ByRecursion.{All-append}
use Rattle.std.proofs.lemmas.List.{length-append, length-map, get_or-map}
use Rattle.std.proofs.lemmas.List.Elements.{recursion_from_All}
use Rattle.std.proofs.lemmas.Bool.{cond-false, ne_eqb, cases_lt}
use Rattle.std.proofs.lemmas.Fmt.{decimal_digit}
use Rattle.sheet.specs.declared.columns.Column.{Column}
use Rattle.sheet.specs.declared.columns.Column.TheVariants as column
use Rattle.sheet.specs.declared.Entry.{Entry}
use Rattle.sheet.specs.declared.Mark.{Mark}
use Rattle.sheet.specs.declared.Mark.TheVariants.{Open, Panel, Device}
use Rattle.sheet.specs.declared.columns.Names.{Names}
use Rattle.sheet.specs.Format.{pieces, unended, lines, fields}
use Rattle.sheet.specs.Meaning.{reading, reading_of}
use Rattle.sheet.specs.Accepted.{Accepted}
use Rattle.sheet.specs.Laws.{Unbroken, name_of, sign_of, Holds, EachOnce, Named, Valued}
use Rattle.sheet.specs.Faults.{line_of, Right}
use Rattle.sheet.specs.Written.{written_in, spaced, names_line, entry_line, text_of}
use Rattle.sheet.specs.Readings.{ReadingLaws}
use Rattle.sheet.proofs.Splits.{without_feed}
use Rattle.sheet.proofs.Laws.{unique, written, signed, decimal_teen}
use Rattle.sheet.proofs.Sound.{few_cells}
use Rattle.sheet.proofs.Faulted.{cell_is, Says, says}
use Rattle.sheet.proofs.Told.{right_read, fault_told}

-- fields

-- a field: one byte or more, at most so many, none of them a space or a line feed
record Field (most : ℕ) (bytes : List ℕ) : Type 0 where
  plain : AllByRecursion (λ b. 32 < b) bytes
  some : 1 ≤ length bytes
  few : length bytes ≤ most

name_field : (c : Column) → Field 4 (name_of c)
name_field column.Row = record { plain = (omega arith, (omega arith, (omega arith, tt))); some = omega arith; few = omega arith }
name_field column.Col = record { plain = (omega arith, (omega arith, (omega arith, tt))); some = omega arith; few = omega arith }
name_field column.Mark = record { plain = (omega arith, (omega arith, (omega arith, (omega arith, tt)))); some = omega arith; few = omega arith }

decimal_field : (n : ℕ) → n ≤ 15 → Field 2 (decimal n)
decimal_field n low =
    ⊎_elim
    (λ small. subst (Field 2) (sym (decimal_digit n small)) (record { plain = (omega arith, tt); some = omega arith; few = omega arith }))
    (λ large. subst (Field 2) (sym (decimal_teen n large low)) (record { plain = (omega arith, (omega arith, tt)); some = omega arith; few = omega arith }))
    (cases_lt n 10)

sign_field : (m : Mark) → Field 2 (sign_of m)
sign_field Open = record { plain = (omega arith, tt); some = omega arith; few = omega arith }
sign_field Panel = record { plain = (omega arith, tt); some = omega arith; few = omega arith }
sign_field Device = record { plain = (omega arith, tt); some = omega arith; few = omega arith }

-- an entry of a cell on the floor
abbrev OnFloor : Entry → Type 0
OnFloor e = (e.cell.row ≤ 15) × (e.cell.col ≤ 15)

written_field : (c : Column) (e : Entry) → OnFloor e → Field 2 (written_in c e)
written_field column.Row e on = decimal_field e.cell.row on.0
written_field column.Col e on = decimal_field e.cell.col on.1
written_field column.Mark e on = sign_field e.mark

written_holds : (c : Column) (e : Entry) → OnFloor e → Holds c (written_in c e) e
written_holds column.Row e on = written e.cell.row on.0
written_holds column.Col e on = written e.cell.col on.1
written_holds column.Mark e on = signed e.mark

plain_unbroken : (s : ℕ) (bytes : List ℕ) → s ≤ 32 → AllByRecursion (λ b. 32 < b) bytes → Unbroken s bytes
plain_unbroken s [] low all = tt
plain_unbroken s (b ∷ bytes) low all = ((λ is. let above = all.0 in omega arith), plain_unbroken s bytes low all.1)

-- lines

-- a line: something, with no line feed
record Line (bytes : List ℕ) : Type 0 where
  whole : Unbroken 10 bytes
  some : 1 ≤ length bytes

module _ (most : ℕ) (a b c : List ℕ) (fa : Field most a) (fb : Field most b) (fc : Field most c) where
  spaced_fields : fields (spaced a b c) ≡ a ∷ b ∷ c ∷ []
  spaced_fields =
      unique 32 a (b ∷ c ∷ [])
      (plain_unbroken 32 a (omega arith) fa.plain, (plain_unbroken 32 b (omega arith) fb.plain, (plain_unbroken 32 c (omega arith) fc.plain, tt)))

  spaced_long : length (spaced a b c) ≡ length a + (length b + (length c + 2))
  spaced_long = let one = length-append a (32 ∷ (b ++ (32 ∷ c))) in let two = length-append b (32 ∷ c) in omega arith

  spaced_short : length (spaced a b c) ≤ 3 * most + 2
  spaced_short = let long = spaced_long in let x = fa.few in let y = fb.few in let z = fc.few in omega arith

  spaced_line : Line (spaced a b c)
  spaced_line = record {
    whole = All-append (λ b. b ≢ 10) a (32 ∷ (b ++ (32 ∷ c))) (plain_unbroken 10 a (omega arith) fa.plain)
        ((λ is. omega arith), All-append (λ b. b ≢ 10) b (32 ∷ c) (plain_unbroken 10 b (omega arith) fb.plain) ((λ is. omega arith), plain_unbroken 10 c (omega arith) fc.plain));
    some = let long = spaced_long in omega arith;
  }

-- a text that does not end with a line feed has none to lose
unended_line : (p : List ℕ) → Unbroken 10 p → unended p ≡ p
unended_line [] u = refl
unended_line (b ∷ []) u = cond-false _ _ _ (ne_eqb b 10 u.0)
unended_line (b ∷ c ∷ p) u = ap (λ l. b ∷ l) (unended_line (c ∷ p) u.1)

unended_ahead : (p : List ℕ) (b : ℕ) (text : List ℕ) → unended (p ++ b ∷ text) ≡ p ++ unended (b ∷ text)
unended_ahead [] b text = refl
unended_ahead (x ∷ []) b text = refl
unended_ahead (x ∷ y ∷ p) b text = ap (λ l. x ∷ l) (unended_ahead (y ∷ p) b text)

-- a text that starts with a line is not empty
unended_feed : (q : List ℕ) (more : List (List ℕ)) → 1 ≤ length q → unended (10 ∷ join_with_byte 10 (q ∷ more)) ≡ 10 ∷ unended (join_with_byte 10 (q ∷ more))
unended_feed [] more some = absurd (omega arith)
unended_feed (b ∷ q) [] some = refl
unended_feed (b ∷ q) (r ∷ more) some = refl

unended_lines : (p : List ℕ) (more : List (List ℕ)) → AllByRecursion Line (p ∷ more) → unended (join_with_byte 10 (p ∷ more)) ≡ join_with_byte 10 (p ∷ more)
unended_lines p [] all = unended_line p all.0.whole
unended_lines p (q ∷ more) all =
    unended_ahead p 10 (join_with_byte 10 (q ∷ more)) ∙ ap (λ l. p ++ l) (unended_feed q more all.1.0.some ∙ ap (λ l. 10 ∷ l) (unended_lines q more all.1))

unbroken_lines : (ps : List (List ℕ)) → AllByRecursion Line ps → AllByRecursion (Unbroken 10) ps
unbroken_lines [] all = tt
unbroken_lines (p ∷ ps) all = (all.0.whole, unbroken_lines ps all.1)

-- how long the lines make a text
joined_short : (p : List ℕ) (more : List (List ℕ)) → AllByRecursion (λ l. length l ≤ 8) more → length (join_with_byte 10 (p ∷ more)) ≤ length p + 9 * length more
joined_short p [] all = omega arith
joined_short p (q ∷ more) all =
    let long = length-append p (10 ∷ join_with_byte 10 (q ∷ more)) in
    let rest = joined_short q more all.1 in
    let short = all.0 in
    omega arith

-- the text

module _ (ns : Names) where
  line_written : (e : Entry) → OnFloor e → Line (entry_line ns e)
  line_written e on = spaced_line 2 _ _ _ (written_field ns.first e on) (written_field ns.second e on) (written_field ns.third e on)

  line_short : (e : Entry) → OnFloor e → length (entry_line ns e) ≤ 8
  line_short e on = spaced_short 2 _ _ _ (written_field ns.first e on) (written_field ns.second e on) (written_field ns.third e on)

  line_valued : (e : Entry) (n : ℕ) → OnFloor e → e.line ≡ n → Valued (entry_line ns e) ns n e
  line_valued e n on is = record {
    first = written_in ns.first e;
    second = written_in ns.second e;
    third = written_in ns.third e;
    three = spaced_fields 2 _ _ _ (written_field ns.first e on) (written_field ns.second e on) (written_field ns.third e on);
    holds_first = written_holds ns.first e on;
    holds_second = written_holds ns.second e on;
    holds_third = written_holds ns.third e on;
    numbered = is;
  }

  names_named : EachOnce ns → Named (names_line ns) ns
  names_named once = record { words = spaced_fields 4 _ _ _ (name_field ns.first) (name_field ns.second) (name_field ns.third); each_once = once }

  each_line : (P : List ℕ → Type 0) → ((e : Entry) → OnFloor e → P (entry_line ns e)) → (es : List Entry) → AllByRecursion OnFloor es → AllByRecursion P (map (entry_line ns) es)
  each_line P one [] all = tt
  each_line P one (e ∷ es) all = (one e all.0, each_line P one es all.1)

  module _ (es : List Entry) (h : Accepted es) where
    on_floor : AllByRecursion OnFloor es
    on_floor = recursion_from_All OnFloor es (λ i d low. (h.rows i d low, h.cols i d low))

    all_lines : AllByRecursion Line (names_line ns ∷ map (entry_line ns) es)
    all_lines = (spaced_line 4 _ _ _ (name_field ns.first) (name_field ns.second) (name_field ns.third), each_line Line line_written es on_floor)

    pieces_of : pieces 10 (text_of ns es) ≡ names_line ns ∷ map (entry_line ns) es
    pieces_of = unique 10 (names_line ns) (map (entry_line ns) es) (unbroken_lines (names_line ns ∷ map (entry_line ns) es) all_lines)

    lines_of : lines (text_of ns es) ≡ names_line ns ∷ map (entry_line ns) es
    lines_of = ap (pieces 10) (unended_lines (names_line ns) (map (entry_line ns) es) all_lines) ∙ pieces_of

    lines_of_ended : lines (text_of ns es ++ 10 ∷ []) ≡ names_line ns ∷ map (entry_line ns) es
    lines_of_ended = ap (pieces 10) (without_feed (text_of ns es)) ∙ pieces_of

    -- a floor has 256 cells
    few : length es ≤ 256
    few = few_cells es on_floor (λ i j d before low same. h.apart i j d before low (cell_is _ _ same))

    short : length (text_of ns es) ≤ 2400
    short =
        let text = joined_short (names_line ns) (map (entry_line ns) es) (each_line (λ l. length l ≤ 8) line_short es on_floor) in
        let first = spaced_short 4 _ _ _ (name_field ns.first) (name_field ns.second) (name_field ns.third) in
        let many = length-map es (entry_line ns) in
        let most = few in
        omega arith

    -- a text of these lines is right
    right_of : (text : List ℕ) → EachOnce ns → lines text ≡ names_line ns ∷ map (entry_line ns) es → Right text es
    right_of text once are = record {
      names = ns;
      right = record {
        there = omega arith;
        many = sym (ap length are ∙ (let many = length-map es (entry_line ns) in let e : suc (length (map (entry_line ns) es)) ≡ length es + 1 = omega arith in e));
        named = subst (λ ls. Named (get_or ls 0 []) ns) (sym are) (names_named once);
        valued = λ i d low.
            let number : suc i ≡ i + 2 - 1 = omega arith in
            let this : entry_line ns (get_or es i d) ≡ line_of text (i + 2) = sym (get_or-map (entry_line ns) es i d [] low) ∙ ap (λ ls. get_or ls (suc i) []) (sym are) ∙ ap (λ k. get_or (lines text) k []) number in
            subst (λ l. Valued l ns (i + 2) (get_or es i d)) this (line_valued (get_or es i d) (i + 2) (h.rows i d low, h.cols i d low) (h.numbered i d low));
        apart = h.apart;
        panels = let one = h.panel in omega arith;
      };
      panel = h.panel;
    }

read_back : (ns : Names) (es : List Entry) (room : ℕ) → EachOnce ns → Accepted es → 256 ≤ room → reading_of (text_of ns es) room ≡ reading es None
read_back ns es room once h wide =
    let long = short ns es h in
    right_read (text_of ns es) room es (omega arith, wide) (right_of ns es h (text_of ns es) once (lines_of ns es h))

read_back_ended : (ns : Names) (es : List Entry) (room : ℕ) → EachOnce ns → Accepted es → 256 ≤ room → reading_of (text_of ns es ++ 10 ∷ []) room ≡ reading es None
read_back_ended ns es room once h wide =
    let long = short ns es h in
    let one_more = length-append (text_of ns es) (10 ∷ []) in
    right_read (text_of ns es ++ 10 ∷ []) room es (omega arith, wide) (right_of ns es h (text_of ns es ++ 10 ∷ []) once (lines_of_ended ns es h))

pub reading_laws : ReadingLaws
reading_laws =
    record {
      right = λ text room es. ((λ w. right_read text room es w.0 w.1), λ is. subst (Says text room) is (says text room));
      refused = λ text room es f. (fault_told text room es f, λ is. subst (Says text room) is (says text room));
      read_back = read_back;
      read_back_ended = read_back_ended;
    }
