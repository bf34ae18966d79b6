-- The laws of the format: of pieces by induction on the text, of values by cases.
use Rattle.std.proofs.Common.{◌≡◌, ℕ, ◌+◌, ◌-◌, ◌/◌, ◌%◌, ◌≤◌, Bool, true, false, cond, not, ◌&&◌, eqb, leb, List, [], ◌∷◌, ◌++◌, Some, None, Ok, Err, codes, decimal, Option, Result, sym, refl, ap, ◌∙◌, subst, ⊎_elim, arith}
use Rattle.std.specs.Option.{option_map, ok_or}
use Rattle.std.specs.List.{AllByRecursion, join_with_byte, onto_first}
use Rattle.std.specs.Str.{bytes_eq}
use Rattle.std.proofs.lemmas.List.Splits.{join_with_byte-slice_split}
use Rattle.std.proofs.lemmas.Fmt.{decimal_digit, decimal_step}
use Rattle.std.proofs.lemmas.Slice.Eq.{bytes_eq-Decides}
use Rattle.std.proofs.lemmas.Bool.{cond-true, cond-false, cases_eq, cases_Bool, eq-eqb, ne_eqb, eqb-true, le-leb, leb-true, and_parts, and_from, not-true, both_ways, cases_lt}
use Rattle.sheet.specs.declared.columns.Column.{Column}
use Rattle.sheet.specs.declared.columns.Column.TheVariants as column
use Rattle.sheet.specs.declared.Entry.{Entry}
use Rattle.sheet.specs.declared.Mark.{Mark}
use Rattle.sheet.specs.declared.Mark.TheVariants.{Open, Panel, Device}
use Rattle.sheet.specs.declared.columns.Names.{Names}
use Rattle.sheet.specs.declared.refusals.Refusal.{Refusal}
use Rattle.sheet.specs.declared.refusals.Refusal.TheVariants.{FieldCount, BadField}
use Rattle.sheet.specs.Format.{pieces, fields, three, same_column, each_once, as_column, as_names, within, as_coordinate, as_mark, entry_at, filled, and_then, entry_of, as_entry}
use Rattle.sheet.proofs.Splits.{without_feed}
use Rattle.sheet.specs.Laws.{Unbroken, name_of, sign_of, Holds, EachOnce, Named, Valued, FormatLaws}

-- pieces

unbroken_ahead : (s b : ℕ) (ps : List (List ℕ)) → (b ≡ s → ⊥) → AllByRecursion (Unbroken s) ps → AllByRecursion (Unbroken s) (onto_first b ps)
unbroken_ahead s b [] differ all = ((differ, tt), tt)
unbroken_ahead s b (p ∷ ps) differ all = ((differ, all.0), all.1)

unbroken : (s : ℕ) (text : List ℕ) → AllByRecursion (Unbroken s) (pieces s text)
unbroken s [] = (tt, tt)
unbroken s (b ∷ text) =
    ⊎_elim
    (λ same. subst (AllByRecursion (Unbroken s)) (sym (cond-true _ _ _ (eq-eqb b s same))) (tt, unbroken s text))
    (λ differ. subst (AllByRecursion (Unbroken s)) (sym (cond-false _ _ _ (ne_eqb b s differ))) (unbroken_ahead s b (pieces s text) differ (unbroken s text)))
    (cases_eq b s)

-- a byte that is no separator goes in front of the first piece
one_ahead : (s b : ℕ) (text : List ℕ) → (b ≡ s → ⊥) → pieces s (b ∷ text) ≡ onto_first b (pieces s text)
one_ahead s b text differ = cond-false _ _ _ (ne_eqb b s differ)

unique_last : (s : ℕ) (p : List ℕ) → Unbroken s p → pieces s p ≡ p ∷ []
unique_last s [] u = refl
unique_last s (b ∷ p) u = one_ahead s b p u.0 ∙ ap (onto_first b) (unique_last s p u.1)

unique_first : (s : ℕ) (p text : List ℕ) → Unbroken s p → pieces s (p ++ s ∷ text) ≡ p ∷ pieces s text
unique_first s [] text u = cond-true _ _ _ (eq-eqb s s refl)
unique_first s (b ∷ p) text u = one_ahead s b (p ++ s ∷ text) u.0 ∙ ap (onto_first b) (unique_first s p text u.1)

pub unique : (s : ℕ) (p : List ℕ) (more : List (List ℕ)) → AllByRecursion (Unbroken s) (p ∷ more) → pieces s (join_with_byte s (p ∷ more)) ≡ p ∷ more
unique s p [] all = unique_last s p all.0
unique s p (q ∷ more) all = unique_first s p (join_with_byte s (q ∷ more)) all.0 ∙ ap (λ ps. p ∷ ps) (unique s q more all.1)

-- coordinates

one_digit : (d : ℕ) → 48 ≤ d → d ≤ 57 → as_coordinate (d ∷ []) ≡ Some (d - 48)
one_digit d low high = cond-true _ _ _ (and_from _ _ (le-leb 48 d low) (le-leb d 57 high))

teen : (e : ℕ) → 48 ≤ e → e ≤ 53 → as_coordinate (49 ∷ e ∷ []) ≡ Some (10 + (e - 48))
teen e low high = cond-true _ _ _ (and_from _ _ (eq-eqb 49 49 refl) (and_from _ _ (le-leb 48 e low) (le-leb e 53 high)))

pub decimal_teen : (n : ℕ) → 10 ≤ n → n ≤ 15 → decimal n ≡ 49 ∷ (48 + (n - 10)) ∷ []
decimal_teen n low high =
    let one : n / 10 ≡ 1 = omega arith in
    let rest : n % 10 ≡ n - 10 = omega arith in
    decimal_step n low (omega arith) ∙ (λ i. (ap decimal one ∙ decimal_digit 1 (omega arith)) i ++ (48 + rest i) ∷ [])

pub written : (n : ℕ) → n ≤ 15 → as_coordinate (decimal n) ≡ Some n
written n few =
    ⊎_elim
    (λ small. ap as_coordinate (decimal_digit n small) ∙ one_digit (48 + n) (omega arith) (omega arith) ∙ ap Some (let e : 48 + n - 48 ≡ n = omega arith in e))
    (λ large. ap as_coordinate (decimal_teen n large few) ∙ teen (48 + (n - 10)) (omega arith) (omega arith) ∙ ap Some (let e : 10 + (48 + (n - 10) - 48) ≡ n = omega arith in e))
    (cases_lt n 10)

-- what a test let through
pub let_through : {X : Type 0} (t : Bool) (x y : X) → cond t (Some x) None ≡ Some y → (t ≡ true) × (x ≡ y)
let_through true x y h = (refl, cc)
let_through false x y h = absurd (let z : ◌≡◌ {A = ℕ} 0 1 = cc in omega arith)

numbers : (bytes : List ℕ) (n : ℕ) → as_coordinate bytes ≡ Some n → (n ≤ 15) × (bytes ≡ decimal n)
numbers [] n h = absurd (let z : ◌≡◌ {A = ℕ} 0 1 = cc in omega arith)
numbers (d ∷ []) n h =
    let t = let_through (within 48 57 d) (d - 48) n h in
    let b = and_parts (leb 48 d) (leb d 57) t.0 in
    let low = leb-true 48 d b.0 in
    let high = leb-true d 57 b.1 in
    let is = t.1 in
    let back : d ≡ 48 + n = omega arith in
    (omega arith, ap (λ x. x ∷ []) back ∙ sym (decimal_digit n (omega arith)))
numbers (d ∷ e ∷ []) n h =
    let t = let_through (eqb d 49 && within 48 53 e) (10 + (e - 48)) n h in
    let b = and_parts (eqb d 49) (within 48 53 e) t.0 in
    let r = and_parts (leb 48 e) (leb e 53) b.1 in
    let one = eqb-true d 49 b.0 in
    let low = leb-true 48 e r.0 in
    let high = leb-true e 53 r.1 in
    let is = t.1 in
    let back : e ≡ 48 + (n - 10) = omega arith in
    (omega arith, (λ i. one i ∷ back i ∷ []) ∙ sym (decimal_teen n (omega arith) (omega arith)))
numbers (d ∷ e ∷ f ∷ more) n h = absurd (let z : ◌≡◌ {A = ℕ} 0 1 = cc in omega arith)

-- marks

pub signed : (m : Mark) → as_mark (sign_of m) ≡ Some m
signed Open = refl
signed Panel = refl
signed Device = refl

signs : (bytes : List ℕ) (m : Mark) → as_mark bytes ≡ Some m → bytes ≡ sign_of m
signs [] m h = cc
signs (b ∷ []) m h =
    ⊎_elim (λ point. at Open (ap (λ x. x ∷ []) (eqb-true b 46 point)) (sym (cond-true _ _ _ point) ∙ h))
    (λ not-point. ⊎_elim (λ panel. at Panel (ap (λ x. x ∷ []) (eqb-true b 80 panel)) (sym (cond-false _ _ _ not-point ∙ cond-true _ _ _ panel) ∙ h))
    (λ not-panel.
    let last = let_through (eqb b 68) Device m (sym (cond-false _ _ _ not-point ∙ cond-false _ _ _ not-panel) ∙ h) in
    at Device (ap (λ x. x ∷ []) (eqb-true b 68 last.0)) (ap Some last.1))
    (cases_Bool (eqb b 80)))
    (cases_Bool (eqb b 46))
  where
    at : (k : Mark) → b ∷ [] ≡ sign_of k → ◌≡◌ {A = Option Mark} (Some k) (Some m) → b ∷ [] ≡ sign_of m
    at k same is = let e : k ≡ m = cc in same ∙ ap sign_of e
signs (b ∷ c ∷ more) m h = cc

-- names and values

pub three_is : {X : Type 0} (xs : List X) (f : X × X × X) → three xs ≡ Some f → xs ≡ f.0 ∷ f.1 ∷ f.2 ∷ []
three_is [] f h = absurd (let z : ◌≡◌ {A = ℕ} 0 1 = cc in omega arith)
three_is (a ∷ []) f h = absurd (let z : ◌≡◌ {A = ℕ} 0 1 = cc in omega arith)
three_is (a ∷ b ∷ []) f h = absurd (let z : ◌≡◌ {A = ℕ} 0 1 = cc in omega arith)
three_is {X} (a ∷ b ∷ c ∷ []) f h = let e : ◌≡◌ {A = X × X × X} (a, b, c) f = cc in ap (λ (t : X × X × X). t.0 ∷ t.1 ∷ t.2 ∷ []) e
three_is (a ∷ b ∷ c ∷ d ∷ more) f h = absurd (let z : ◌≡◌ {A = ℕ} 0 1 = cc in omega arith)

same_some : {X : Type 0} (x y : X) → ◌≡◌ {A = Option X} (Some x) (Some y) → x ≡ y
same_some x y h = cc

column_named : (name : List ℕ) (c : Column) → as_column name ≡ Some c → name ≡ name_of c
column_named name c h =
    ⊎_elim (λ row. at column.Row row (sym (cond-true _ _ _ row) ∙ h))
    (λ not-row. ⊎_elim (λ col. at column.Col col (sym (cond-false _ _ _ not-row ∙ cond-true _ _ _ col) ∙ h))
    (λ not-col.
    let last = let_through (bytes_eq name (codes "mark")) column.Mark c (sym (cond-false _ _ _ not-row ∙ cond-false _ _ _ not-col) ∙ h) in
    at column.Mark last.0 (ap Some last.1))
    (cases_Bool (bytes_eq name (codes "col"))))
    (cases_Bool (bytes_eq name (codes "row")))
  where
    at : (k : Column) → bytes_eq name (name_of k) ≡ true → ◌≡◌ {A = Option Column} (Some k) (Some c) → name ≡ name_of c
    at k same is = (bytes_eq-Decides name (name_of k)).0 same ∙ ap name_of (same_some k c is)

-- three columns, each once
record Once (a b c : Option Column) (ns : Names) : Type 0 where
  is_first : a ≡ Some ns.first
  is_second : b ≡ Some ns.second
  is_third : c ≡ Some ns.third
  distinct : EachOnce ns

once : (a b c : Option Column) (ns : Names) → each_once a b c ≡ Some ns → Once a b c ns
once None b c ns h = absurd (let z : ◌≡◌ {A = ℕ} 0 1 = cc in omega arith)
once (Some a) None c ns h = absurd (let z : ◌≡◌ {A = ℕ} 0 1 = cc in omega arith)
once (Some a) (Some b) None ns h = absurd (let z : ◌≡◌ {A = ℕ} 0 1 = cc in omega arith)
once (Some a) (Some b) (Some c) ns h =
    let t = let_through (not (same_column a b) && (not (same_column b c) && not (same_column a c))) (record { first = a; second = b; third = c }) ns h in
    let p = and_parts (not (same_column a b)) (not (same_column b c) && not (same_column a c)) t.0 in
    let q = and_parts (not (same_column b c)) (not (same_column a c)) p.1 in
    record {
      is_first = ap (λ (n : Names). Some n.first) t.1;
      is_second = ap (λ (n : Names). Some n.second) t.1;
      is_third = ap (λ (n : Names). Some n.third) t.1;
      distinct = subst EachOnce t.1 (record { first_second = not-true (same_column a b) p.0; second_third = not-true (same_column b c) q.0; first_third = not-true (same_column a c) q.1 });
    }

-- and the other way: three columns that differ are taken as they stand
once_read : (ns : Names) → EachOnce ns → each_once (Some ns.first) (Some ns.second) (Some ns.third) ≡ Some ns
once_read ns distinct =
    cond-true _ _ _
    (and_from _ _ (ap not distinct.first_second) (and_from _ _ (ap not distinct.second_third) (ap not distinct.first_third)))

pub names : (line : List ℕ) (ns : Names) → as_names line ≡ Some ns → Named line ns
names line ns h = at (three (fields line)) refl h where
  at : (o : Option (List ℕ × List ℕ × List ℕ)) → three (fields line) ≡ o → elim o [ None ↦ None | Some f ↦ each_once (as_column f.0) (as_column f.1) (as_column f.2) ] ≡ Some ns → Named line ns
  at None is k = absurd (let z : ◌≡◌ {A = ℕ} 0 1 = cc in omega arith)
  at (Some f) is k =
      let o = once (as_column f.0) (as_column f.1) (as_column f.2) ns k in
      let a = column_named f.0 ns.first o.is_first in
      let b = column_named f.1 ns.second o.is_second in
      let c = column_named f.2 ns.third o.is_third in
      record {
        words = three_is (fields line) f is ∙ (λ i. a i ∷ b i ∷ c i ∷ []);
        each_once = o.distinct;
      }

name_read : (c : Column) → as_column (name_of c) ≡ Some c
name_read column.Row = refl
name_read column.Col = refl
name_read column.Mark = refl

pub names_read : (line : List ℕ) (ns : Names) → Named line ns → as_names line ≡ Some ns
names_read line ns named =
    ap (λ fs. elim (three fs) [ None ↦ None | Some f ↦ each_once (as_column f.0) (as_column f.1) (as_column f.2) ]) named.words
    ∙ (λ i. each_once (name_read ns.first i) (name_read ns.second i) (name_read ns.third i)) ∙ once_read ns named.each_once

-- a field that is right fills its column's place, and leaves the others
record Fills (c : Column) (bytes : List ℕ) (e e' : Entry) : Type 0 where
  here : Holds c bytes e'
  others : (d : Column) (bs : List ℕ) → same_column c d ≡ false → Holds d bs e → Holds d bs e'
  kept : e'.line ≡ e.line

value_of : {X : Type 0} (g : X → Entry) (o : Option X) (f : Refusal) (e' : Entry) → ok_or (option_map g o) f ≡ Ok e' → (x : X) × (o ≡ Some x) × (g x ≡ e')
value_of g None f e' h = absurd (let z : ◌≡◌ {A = ℕ} 0 1 = cc in omega arith)
value_of g (Some x) f e' h = (x, refl, cc)

fills : (c : Column) (bytes : List ℕ) (l k : ℕ) (e e' : Entry) → filled c bytes l k e ≡ Ok e' → Fills c bytes e e'
fills column.Row bytes l k e e' h =
    let v = value_of _ (as_coordinate bytes) _ e' h in
    record { here = v.1 ∙ ap (λ (x : Entry). Some x.cell.row) v.2; others = keeps v.2; kept = sym (ap (λ (x : Entry). x.line) v.2) }
  where
    keeps : {n : ℕ} → entry_at n e.cell.col e.mark e.line ≡ e' → (d : Column) (bs : List ℕ) → same_column column.Row d ≡ false → Holds d bs e → Holds d bs e'
    keeps is column.Row bs differ was = absurd (both_ways true differ refl)
    keeps is column.Col bs differ was = was ∙ ap (λ (x : Entry). Some x.cell.col) is
    keeps is column.Mark bs differ was = was ∙ ap (λ (x : Entry). Some x.mark) is
fills column.Col bytes l k e e' h =
    let v = value_of _ (as_coordinate bytes) _ e' h in
    record { here = v.1 ∙ ap (λ (x : Entry). Some x.cell.col) v.2; others = keeps v.2; kept = sym (ap (λ (x : Entry). x.line) v.2) }
  where
    keeps : {n : ℕ} → entry_at e.cell.row n e.mark e.line ≡ e' → (d : Column) (bs : List ℕ) → same_column column.Col d ≡ false → Holds d bs e → Holds d bs e'
    keeps is column.Row bs differ was = was ∙ ap (λ (x : Entry). Some x.cell.row) is
    keeps is column.Col bs differ was = absurd (both_ways true differ refl)
    keeps is column.Mark bs differ was = was ∙ ap (λ (x : Entry). Some x.mark) is
fills column.Mark bytes l k e e' h =
    let v = value_of _ (as_mark bytes) _ e' h in
    record { here = v.1 ∙ ap (λ (x : Entry). Some x.mark) v.2; others = keeps v.2; kept = sym (ap (λ (x : Entry). x.line) v.2) }
  where
    keeps : {m : Mark} → entry_at e.cell.row e.cell.col m e.line ≡ e' → (d : Column) (bs : List ℕ) → same_column column.Mark d ≡ false → Holds d bs e → Holds d bs e'
    keeps is column.Row bs differ was = was ∙ ap (λ (x : Entry). Some x.cell.row) is
    keeps is column.Col bs differ was = was ∙ ap (λ (x : Entry). Some x.cell.col) is
    keeps is column.Mark bs differ was = absurd (both_ways true differ refl)

went_on : {X Y : Type 0} (r : Result X Refusal) (k : X → Result Y Refusal) (y : Y) → and_then r k ≡ Ok y → (x : X) × (r ≡ Ok x) × (k x ≡ Ok y)
went_on (Ok x) k y h = (x, refl, h)
went_on (Err f) k y h = absurd (let z : ◌≡◌ {A = ℕ} 0 1 = cc in omega arith)

same_either : (a b : Column) → same_column a b ≡ same_column b a
same_either column.Row column.Row = refl
same_either column.Row column.Col = refl
same_either column.Row column.Mark = refl
same_either column.Col column.Row = refl
same_either column.Col column.Col = refl
same_either column.Col column.Mark = refl
same_either column.Mark column.Row = refl
same_either column.Mark column.Col = refl
same_either column.Mark column.Mark = refl

pub values : (line : List ℕ) (ns : Names) (n : ℕ) (e : Entry) → EachOnce ns → as_entry ns n line ≡ Ok e → Valued line ns n e
values line ns n e distinct h = at (three (fields line)) refl h where
  at : (o : Option (List ℕ × List ℕ × List ℕ)) → three (fields line) ≡ o → ◌≡◌ {A = Result Entry Refusal} (elim o [ None ↦ Err (FieldCount n) | Some f ↦ entry_of ns n f ]) (Ok e) → Valued line ns n e
  at None is k = absurd (let z : ◌≡◌ {A = ℕ} 0 1 = cc in omega arith)
  at (Some f) is k =
      let one = went_on (filled ns.first f.0 n 1 (entry_at 0 0 Open n)) _ e k in
      let two = went_on (filled ns.second f.1 n 2 one.0) _ e one.2 in
      let a = fills ns.first f.0 n 1 (entry_at 0 0 Open n) one.0 one.1 in
      let b = fills ns.second f.1 n 2 one.0 two.0 two.1 in
      let c = fills ns.third f.2 n 3 two.0 e two.2 in
      record {
        first = f.0;
        second = f.1;
        third = f.2;
        three = three_is (fields line) f is;
        holds_first =
            c.others ns.first f.0 (same_either ns.third ns.first ∙ distinct.first_third)
            (b.others ns.first f.0 (same_either ns.second ns.first ∙ distinct.first_second) a.here);
        holds_second = c.others ns.second f.1 (same_either ns.third ns.second ∙ distinct.second_third) b.here;
        holds_third = c.here;
        numbered = c.kept ∙ b.kept ∙ a.kept;
      }

-- an entry whose column has a value already keeps it: what is filled in is the part of e in that column
abbrev put : Column → Entry → Entry → Entry
put column.Row e x = entry_at e.cell.row x.cell.col x.mark x.line
put column.Col e x = entry_at x.cell.row e.cell.col x.mark x.line
put column.Mark e x = entry_at x.cell.row x.cell.col e.mark x.line

filled_read : (c : Column) (bytes : List ℕ) (l k : ℕ) (e x : Entry) → Holds c bytes e → filled c bytes l k x ≡ Ok (put c e x)
filled_read column.Row bytes l k e x h = ap (λ o. ok_or (option_map (λ n. entry_at n x.cell.col x.mark x.line) o) (BadField l k)) h
filled_read column.Col bytes l k e x h = ap (λ o. ok_or (option_map (λ n. entry_at x.cell.row n x.mark x.line) o) (BadField l k)) h
filled_read column.Mark bytes l k e x h = ap (λ o. ok_or (option_map (λ m. entry_at x.cell.row x.cell.col m x.line) o) (BadField l k)) h

-- three columns that differ are all there are
all_put : (a b c : Column) (e x : Entry) → same_column a b ≡ false → same_column b c ≡ false → same_column a c ≡ false → put c e (put b e (put a e x)) ≡ entry_at e.cell.row e.cell.col e.mark x.line
all_put column.Row column.Col column.Mark e x p q r = refl
all_put column.Row column.Mark column.Col e x p q r = refl
all_put column.Col column.Row column.Mark e x p q r = refl
all_put column.Col column.Mark column.Row e x p q r = refl
all_put column.Mark column.Row column.Col e x p q r = refl
all_put column.Mark column.Col column.Row e x p q r = refl
all_put a b c e x p q r = cc

pub values_read : (line : List ℕ) (ns : Names) (n : ℕ) (e : Entry) → EachOnce ns → Valued line ns n e → as_entry ns n line ≡ Ok e
values_read line ns n e distinct v =
    let blank = entry_at 0 0 Open n in
    let one = put ns.first e blank in
    let two = put ns.second e one in
    ap (λ fs. elim (three fs) [ None ↦ Err (FieldCount n) | Some f ↦ entry_of ns n f ]) v.three
    ∙ ap (λ r. and_then r (λ x. and_then (filled ns.second v.second n 2 x) (λ y. filled ns.third v.third n 3 y))) (filled_read ns.first v.first n 1 e blank v.holds_first)
    ∙ ap (λ r. and_then r (λ y. filled ns.third v.third n 3 y)) (filled_read ns.second v.second n 2 e one v.holds_second)
    ∙ filled_read ns.third v.third n 3 e two v.holds_third
    ∙ ap Ok (all_put ns.first ns.second ns.third e blank distinct.first_second distinct.second_third distinct.first_third)
    ∙ ap (λ l. Ok (entry_at e.cell.row e.cell.col e.mark l)) (sym v.numbered)

pub format_laws : FormatLaws
format_laws =
    record {
      rejoined = join_with_byte-slice_split;
      unbroken = unbroken;
      unique = unique;
      ended = λ text. ap (pieces 10) (without_feed text);
      written = written;
      numbers = numbers;
      signed = signed;
      signs = signs;
      names = names;
      names_read = names_read;
      values = values;
      values_read = values_read;
    }
