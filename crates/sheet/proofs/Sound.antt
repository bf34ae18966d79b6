-- What every reading keeps of the entries so far: they are inside, apart, numbered by their lines, with at most one panel.
use Rattle.std.proofs.Common.{◌≡◌, ℕ, ◌+◌, ◌-◌, ◌*◌, ◌<◌, ◌≤◌, Bool, true, false, cond, ◌&&◌, ◌||◌, eqb, leb, List, [], ◌∷◌, ◌++◌, map, length, get_or, IfSome, IfOk, Some, None, Ok, Err, Option, Result, sym, refl, ap, ◌∙◌, subst, ⊎_elim, arith}
use Rattle.std.specs.Option.{option_map, ok_or}
use Rattle.std.specs.Cmp.{nat_eq_equiv}
use Rattle.std.specs.List.{AllByRecursion, IsDistinct, list_any}
use Rattle.std.proofs.lemmas.List.Elements.{filter-append}
use Rattle.std.proofs.ByRecursion.{All-push, All-get_or}
use Rattle.std.proofs.lemmas.List.{length-append, length-map, length_push, get_or-map, get_or_push, get_or_append_left, map_push}
use Rattle.std.proofs.lemmas.Bool.{cond_both, and_parts, and_from, or_parts, or_from, or_cases, leb-true, eq-eqb, eqb-true, ne_eqb, cases_lt, both_ways}
use Rattle.std.proofs.lemmas.List.Folds.{list_any-append}
use Rattle.std.proofs.lemmas.Map.Keys.{IsDistinct-push, IsDistinct-from_apart, apart_from_distinct}
use Rattle.std.proofs.lemmas.Map.Steps.{length-le_from_distinct_below}
use Rattle.std.proofs.Math.Bool.{or-false}
use Rattle.floor.specs.declared.Cell.{Cell}
use Rattle.sheet.specs.declared.columns.Column.{Column}
use Rattle.sheet.specs.declared.columns.Column.TheVariants as column
use Rattle.sheet.specs.declared.Entry.{Entry}
use Rattle.sheet.specs.declared.Mark.{Mark}
use Rattle.sheet.specs.declared.Mark.TheVariants.{Open, Panel}
use Rattle.sheet.specs.declared.columns.Names.{Names}
use Rattle.sheet.specs.declared.refusals.Refusal.{Refusal}
use Rattle.sheet.specs.Format.{within, three, fields, as_coordinate, as_mark, entry_at, filled, and_then, entry_of, as_entry}
use Rattle.sheet.specs.Meaning.{same_cell, some, named, same_mark, marked, has_panel, admitted, added}
use Rattle.sheet.specs.Accepted.{Accepted}

-- an entry of line n on a floor of 16 by 16
pub record Inside (n : ℕ) (e : Entry) : Type 0 where
  pub row : e.cell.row ≤ 15
  pub col : e.cell.col ≤ 15
  pub line : e.line ≡ n

small_digit : (low d : ℕ) → within 48 57 d ≡ true → d - 48 ≤ 15
small_digit low d t = let high = leb-true d 57 (and_parts (leb 48 d) (leb d 57) t).1 in omega arith

small_teen : (d e : ℕ) → (eqb d 49 && within 48 53 e) ≡ true → 10 + (e - 48) ≤ 15
small_teen d e t =
    let both = and_parts (eqb d 49) (within 48 53 e) t in
    let high = leb-true e 53 (and_parts (leb 48 e) (leb e 53) both.1).1 in
    omega arith

coordinate_small : (bytes : List ℕ) → IfSome (as_coordinate bytes) (λ n. n ≤ 15)
coordinate_small [] = tt
coordinate_small (d ∷ []) = cond_both (within 48 57 d) (Some (d - 48)) None (λ o. IfSome o (λ n. n ≤ 15)) (small_digit 0 d) (λ _. tt)
coordinate_small (d ∷ e ∷ []) =
    cond_both (eqb d 49 && within 48 53 e) (Some (10 + (e - 48))) None (λ o. IfSome o (λ n. n ≤ 15)) (small_teen d e) (λ _. tt)
coordinate_small (d ∷ e ∷ f ∷ more) = tt

-- what holds of a value that was put into an entry
put_in : {X : Type 0} (P : X → Type 0) (Q : Entry → Type 0) (g : X → Entry) (o : Option X) (f : Refusal) → IfSome o P → ((x : X) → P x → Q (g x)) → IfOk (ok_or (option_map g o) f) Q
put_in P Q g None f h k = tt
put_in P Q g (Some x) f h k = k x h

any_mark : (o : Option Mark) → IfSome o (λ _. Unit {0})
any_mark None = tt
any_mark (Some m) = tt

filled_inside : (c : Column) (bytes : List ℕ) (n l f : ℕ) (e : Entry) → Inside n e → IfOk (filled c bytes l f e) (Inside n)
filled_inside column.Row bytes n l f e h =
    put_in (λ v. v ≤ 15) (Inside n) _ (as_coordinate bytes) _ (coordinate_small bytes) (λ v low. record { row = low; col = h.col; line = h.line })
filled_inside column.Col bytes n l f e h =
    put_in (λ v. v ≤ 15) (Inside n) _ (as_coordinate bytes) _ (coordinate_small bytes) (λ v low. record { row = h.row; col = low; line = h.line })
filled_inside column.Mark bytes n l f e h =
    put_in (λ _. Unit {0}) (Inside n) _ (as_mark bytes) _ (any_mark (as_mark bytes)) (λ m _. record { row = h.row; col = h.col; line = h.line })

made_then : {X Y : Type 0} (P : X → Type 0) (Q : Y → Type 0) (r : Result X Refusal) (k : X → Result Y Refusal) → IfOk r P → ((x : X) → P x → IfOk (k x) Q) → IfOk (and_then r k) Q
made_then P Q (Ok x) k h next = next x h
made_then P Q (Err f) k h next = tt

entry_inside : (names : Names) (n : ℕ) (f : List ℕ × List ℕ × List ℕ) → IfOk (entry_of names n f) (Inside n)
entry_inside names n f =
    made_then (Inside n) (Inside n) (filled names.first f.0 n 1 (entry_at 0 0 Open n)) _
    (filled_inside names.first f.0 n n 1 (entry_at 0 0 Open n) (record { row = omega arith; col = omega arith; line = refl }))
    (λ e h. made_then (Inside n) (Inside n) (filled names.second f.1 n 2 e) _ (filled_inside names.second f.1 n n 2 e h)
    (λ e' h'. filled_inside names.third f.2 n n 3 e' h'))

line_inside : (names : Names) (n : ℕ) (line : List ℕ) → IfOk (as_entry names n line) (Inside n)
line_inside names n line = at_three (three (fields line)) where
  at_three : (o : Option (List ℕ × List ℕ × List ℕ)) → IfOk (elim o [ None ↦ Err (Refusal.FieldCount n) | Some f ↦ entry_of names n f ]) (Inside n)
  at_three None = tt
  at_three (Some f) = entry_inside names n f

-- an entry of line n that may follow those seen
pub record Joins (n : ℕ) (seen : List Entry) (e : Entry) : Type 0 where
  pub inside : Inside n e
  pub fresh : named e.cell seen ≡ false
  pub single : (same_mark e.mark Panel && has_panel seen) ≡ false

admitted_joins : (n : ℕ) (seen : List Entry) (e : Entry) → Inside n e → IfOk (admitted seen e) (Joins n seen)
admitted_joins n seen e h =
    cond_both (named e.cell seen) _ _ (λ r. IfOk r (Joins n seen)) (λ _. tt)
    (λ fresh. cond_both (same_mark e.mark Panel && has_panel seen) _ _ (λ r. IfOk r (Joins n seen)) (λ _. tt) (λ single. record { inside = h; fresh = fresh; single = single }))

pub added_joins : (names : Names) (n : ℕ) (seen : List Entry) (line : List ℕ) → IfOk (added names n seen line) (Joins n seen)
added_joins names n seen line = made_then (Inside n) (Joins n seen) (as_entry names n line) (admitted seen) (line_inside names n line) (λ e h. admitted_joins n seen e h)

-- a cell's number on the floor
abbrev pub place : Entry → ℕ
place e = 16 * e.cell.row + e.cell.col

pub record Sound (es : List Entry) : Type 0 where
  pub on_floor : AllByRecursion (λ e. (e.cell.row ≤ 15) × (e.cell.col ≤ 15)) es
  pub apart : IsDistinct eqb (map place es)
  pub numbered : (i : ℕ) (d : Entry) → i < length es → (get_or es i d).line ≡ i + 2
  pub panel : length (marked Panel es) ≡ cond (has_panel es) 1 0

pub sound_none : Sound []
unfolding IsDistinct
sound_none = record { on_floor = tt; apart = tt; numbered = λ i d h. absurd (omega arith); panel = refl }

same_place : (a b : Entry) → a.cell.row ≤ 15 → a.cell.col ≤ 15 → b.cell.row ≤ 15 → b.cell.col ≤ 15 → place a ≡ place b → same_cell a.cell b.cell ≡ true
same_place a b ar ac br bc e = and_from _ _ (eq-eqb a.cell.row b.cell.row (omega arith)) (eq-eqb a.cell.col b.cell.col (omega arith))

-- a panel more, or none
panel_push : (es : List Entry) (e : Entry) → length (marked Panel es) ≡ cond (has_panel es) 1 0 → (same_mark e.mark Panel && has_panel es) ≡ false → length (marked Panel (es ++ e ∷ [])) ≡ cond (has_panel (es ++ e ∷ [])) 1 0
panel_push es e h single =
    let test : Entry → Bool = λ x. same_mark x.mark Panel in
    ap length (filter-append test es (e ∷ [])) ∙ length-append (marked Panel es) (marked Panel (e ∷ [])) ∙ by_cases (same_mark e.mark Panel) (has_panel es) (length (marked Panel es)) single h
    ∙ ap (λ t. cond t 1 0) (sym (some_push test es e))
  where
    some_push : (test : Entry → Bool) (xs : List Entry) (x : Entry) → some test (xs ++ x ∷ []) ≡ (some test xs || test x)
    some_push test xs x = list_any-append test xs (x ∷ []) ∙ ap (λ t. some test xs || t) (or-false (test x))

    by_cases : (p q : Bool) (n : ℕ) → (p && q) ≡ false → n ≡ cond q 1 0 → n + length (cond p (e ∷ []) []) ≡ cond (q || p) 1 0
    by_cases true true n s k = absurd (both_ways true s refl)
    by_cases true false n s k = omega arith
    by_cases false true n s k = omega arith
    by_cases false false n s k = omega arith

pub sound_push : (es : List Entry) (e : Entry) → Sound es → Joins (length es + 2) es e → Sound (es ++ e ∷ [])
sound_push es e h j =
    record {
      on_floor = All-push _ es e h.on_floor (j.inside.row, j.inside.col);
      apart = subst (IsDistinct eqb) (sym (map_push place es e)) (IsDistinct-push nat_eq_equiv (map place es) (place e) h.apart (other_places es h.on_floor j.fresh));
      numbered = λ i d l. ⊎_elim
          (λ before. ap (λ x. x.line) (get_or_append_left es (e ∷ []) d i before) ∙ h.numbered i d before)
          (λ past.
          let last : i ≡ length es = omega (arith, length_push es e) in
          ap (λ x. x.line) (get_or_push es e d i (sym last)) ∙ j.inside.line ∙ ap (λ n. n + 2) (sym last))
          (cases_lt i (length es));
      panel = panel_push es e h.panel j.single;
    }
  where
    other_places : (xs : List Entry) → AllByRecursion (λ x. (x.cell.row ≤ 15) × (x.cell.col ≤ 15)) xs → named e.cell xs ≡ false → list_any (eqb (place e)) (map place xs) ≡ false
    other_places [] a b = refl
    other_places (x ∷ xs) a b =
        let both = or_parts (same_cell x.cell e.cell) (named e.cell xs) b in
        or_from _ _ (ne_eqb (place e) (place x) (λ same. both_ways _ both.0 (same_place x e a.0.0 a.0.1 j.inside.row j.inside.col (sym same)))) (other_places xs a.1 both.1)

-- places are numbers below 256
places_low : (q : ℕ) (es : List Entry) → AllByRecursion (λ e. (e.cell.row ≤ 15) × (e.cell.col ≤ 15)) es → list_any (eqb q) (map place es) ≡ true → q < 256
places_low q [] a found = cc
places_low q (e ∷ es) a found = ⊎_elim (λ here. let is = eqb-true q (place e) here in omega (arith, a.0.0, a.0.1)) (places_low q es a.1) (or_cases (eqb q (place e)) _ found)

-- a floor of 16 by 16 has 256 cells
few_places : (es : List Entry) → AllByRecursion (λ e. (e.cell.row ≤ 15) × (e.cell.col ≤ 15)) es → IsDistinct eqb (map place es) → length es ≤ 256
few_places es on distinct = subst (λ n. n ≤ 256) (length-map es place) (length-le_from_distinct_below (map place es) 256 distinct (λ q. places_low q es on))

pub few_cells : (es : List Entry) → AllByRecursion (λ e. (e.cell.row ≤ 15) × (e.cell.col ≤ 15)) es → ((i j : ℕ) (d : Entry) → i < j → j < length es → same_cell (get_or es i d).cell (get_or es j d).cell ≡ true → ⊥) → length es ≤ 256
few_cells es on differ = few_places es on (IsDistinct-from_apart eqb (map place es) apart_places)
  where
    apart_places : (i j : ℕ) (d : ℕ) → i < j → j < length (map place es) → eqb (get_or (map place es) i d) (get_or (map place es) j d) ≡ false
    apart_places i j d before low =
        let none : Entry = entry_at 0 0 Open 0 in
        let many = length-map es place in
        let last : j < length es = omega arith in
        let first : i < length es = omega arith in
        let a = All-get_or _ es i none first on in
        let b = All-get_or _ es j none last on in
        ne_eqb _ _ (λ same. differ i j none before last (same_place (get_or es i none) (get_or es j none) a.0 a.1 b.0 b.1 (sym (get_or-map place es i none d first) ∙ same ∙ get_or-map place es j none d last)))

pub sound_few : (es : List Entry) → Sound es → length es ≤ 256
sound_few es h = few_places es h.on_floor h.apart

pub accepted : (es : List Entry) → Sound es → has_panel es ≡ true → Accepted es
accepted es h one =
    record {
      rows = λ i d l. (All-get_or _ es i d l h.on_floor).0;
      cols = λ i d l. (All-get_or _ es i d l h.on_floor).1;
      apart = λ i j d before l same.
          let left : i < length es = omega arith in
          let long = length-map es place in
          both_ways _ (apart_from_distinct eqb (map place es) i j 0 h.apart before (omega arith))
          (eq-eqb _ _ (get_or-map place es i d 0 left ∙ ap (λ (c : Cell). 16 * c.row + c.col) same ∙ sym (get_or-map place es j d 0 l)));
      numbered = h.numbered;
      panel = h.panel ∙ ap (λ t. cond t 1 0) one;
    }
