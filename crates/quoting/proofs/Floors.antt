-- Idea: opening the cells that the entries name, one after another, leaves open just those that some entry names.
use Rattle.std.proofs.Common.{◌≡◌, ℕ, ◌+◌, ◌<◌, ◌≤◌, Bool, true, false, cond, ◌&&◌, ◌||◌, eqb, ltb, List, [], ◌∷◌, map, length, get_or, take, sym, refl, ap, ◌∙◌, arith}
use Rattle.std.specs.List.{AllByRecursion}
use Rattle.std.proofs.Math.Bool.{or-false}
use Rattle.std.proofs.lemmas.List.{take-map, get_or-map, length-map}
use Rattle.std.proofs.ByRecursion.{All-from_get_or}
use Rattle.std.proofs.lemmas.List.Sums.{fold_more}
use Rattle.std.proofs.lemmas.Bool.{cond-true, and_from, lt-ltb}
use Rattle.std.proofs.lemmas.Bool.Decides.{nat_tests}
use Rattle.floor.specs.Plans.{Plan, Sized, inside, marked, closed}
use Rattle.source.specs.Drawing.{open_one, opened}
use Rattle.sheet.specs.declared.Entry.{Entry}
use Rattle.sheet.specs.declared.Mark.TheVariants.{Open}
use Rattle.sheet.specs.Format.{entry_at}
use Rattle.sheet.specs.Accepted.{Accepted}
use Rattle.sheet.specs.Meaning.{same_cell, named}
use Rattle.quoting.specs.Floors.{cells_of, floor_of}

-- one entry more
pub opened_more : (p : Plan) (es : List Entry) (i : ℕ) (d : Entry) → i < length es → opened p (cells_of (take (i + 1) es)) ≡ open_one (opened p (cells_of (take i es))) (get_or es i d).cell
opened_more p es i d within =
    let cell = λ (e : Entry). e.cell in
    let long : i < length (map cell es) = let e = length-map es cell in omega arith in
    ap (opened p) (sym (take-map cell (i + 1) es)) ∙ fold_more open_one p (map cell es) i d.cell long
    ∙ ap (λ (q : Plan). open_one q (get_or (map cell es) i d.cell)) (ap (opened p) (take-map cell i es))
    ∙ ap (open_one (opened p (cells_of (take i es)))) (get_or-map cell es i d d.cell within)

-- an entry on a floor of 16 by 16
abbrev Inside : Entry → Type 0
Inside e = (e.cell.row ≤ 15) × (e.cell.col ≤ 15)

all_inside : (es : List Entry) → Accepted es → AllByRecursion Inside es
all_inside es a = All-from_get_or Inside es (entry_at 0 0 Open 0) (λ i h. (a.rows i (entry_at 0 0 Open 0) h, a.cols i (entry_at 0 0 Open 0) h))

-- a cell that an entry names is that entry's
names : (e : Entry) (r c : ℕ) → same_cell e.cell (record { row = r; col = c }) ≡ (eqb r e.cell.row && eqb c e.cell.col)
names e r c = grind (arith, nat_tests)

either : (s t n f : Bool) → s ≡ t → (n || cond t true f) ≡ ((s || n) || f)
either true true true f e = refl
either true true false f e = refl
either false false true f e = refl
either false false false f e = refl
either true false n f e = absurd (let z : ◌≡◌ {A = ℕ} 0 1 = cc in omega arith)
either false true n f e = absurd (let z : ◌≡◌ {A = ℕ} 0 1 = cc in omega arith)

opened_is : (es : List Entry) (free : ℕ → ℕ → Bool) → AllByRecursion Inside es → opened (record { rows = 16; cols = 16; free = free }) (cells_of es) ≡ record { rows = 16; cols = 16; free = λ r c. named (record { row = r; col = c }) es || free r c }
opened_is [] free inside = refl
opened_is (e ∷ es) free inside =
    let p : Plan = record { rows = 16; cols = 16; free = free } in
    let here = and_from (ltb e.cell.row 16) (ltb e.cell.col 16) (lt-ltb e.cell.row 16 (omega (arith, inside.0.0))) (lt-ltb e.cell.col 16 (omega (arith, inside.0.1))) in
    ap (λ (q : Plan). opened q (cells_of es)) (cond-true (ltb e.cell.row 16 && ltb e.cell.col 16) (marked p e.cell true) p here)
    ∙ opened_is es (marked p e.cell true).free inside.1
    ∙ (λ i. record { rows = 16; cols = 16; free = λ r c. either (same_cell e.cell (record { row = r; col = c })) (eqb r e.cell.row && eqb c e.cell.col) (named (record { row = r; col = c }) es) (free r c) (names e r c) i })

pub floor_opened : (es : List Entry) → Accepted es → opened (closed 16 16) (cells_of es) ≡ floor_of es
floor_opened es a = opened_is es (λ r c. false) (all_inside es a) ∙ (λ i. record { rows = 16; cols = 16; free = λ r c. or-false (named (record { row = r; col = c }) es) i })

-- nothing is named outside
named_inside : (es : List Entry) → AllByRecursion Inside es → (r c : ℕ) → (ltb r 16 && ltb c 16) ≡ false → named (record { row = r; col = c }) es ≡ false
named_inside [] inside r c out = refl
named_inside (e ∷ es) inside r c out =
    let other : same_cell e.cell (record { row = r; col = c }) ≡ false = let row = inside.0.0 in let col = inside.0.1 in grind (arith, nat_tests) in
    ap (λ (b : Bool). b || named (record { row = r; col = c }) es) other ∙ named_inside es inside.1 r c out

pub floor_sized : (es : List Entry) → Accepted es → Sized (floor_of es)
floor_sized es a = record {
  few_rows = omega arith;
  few_cols = omega arith;
  no_rows = λ e. absurd (omega arith);
  no_cols = λ e. absurd (omega arith);
  bounded = named_inside es (all_inside es a);
}
