-- Idea: legs are measured and written one after another, so each fact about a listing has a step from the first legs to one leg more.
use Rattle.std.proofs.Common.{◌≡◌, ℕ, suc, ◌+◌, ◌*◌, ◌<◌, ◌≤◌, Bool, true, false, cond, ◌&&◌, leb, List, [], ◌∷◌, ◌++◌, length, get_or, take, drop, Some, None, Option, sym, refl, ap, ◌∙◌, add-zero, add_assoc, zero-add, arith}
use Rattle.std.proofs.lemmas.Nat.{mul-le}
use Rattle.std.proofs.lemmas.Fmt.{length-decimal-le}
use Rattle.std.proofs.lemmas.List.{length-append, length-take-le, take-append-drop, drop_more}
use Rattle.std.proofs.lemmas.Bool.{and_parts, leb-true}
use Rattle.std.proofs.lemmas.Bool.Decides.{nat_tests}
use Rattle.floor.specs.declared.Counts.{Counts}
use Rattle.rate.specs.Laws.{limit}
use Rattle.writing.proofs.Lengths.{length_three_values}
use Rattle.listing.specs.declared.millimetres.Refusal.{Refusal}
use Rattle.listing.specs.declared.lines.Amount.{Amount}
use Rattle.listing.specs.declared.lines.ListingRefusal.{ListingRefusal}
use Rattle.listing.specs.Millimetres.{refusal, Figure}
use Rattle.listing.specs.Lines.{of_leg, or_later, first_refused, Measures, plus_amount, in_all, values, leg_lines, names_line, listing_text, listing_refusal}
use Rattle.listing.proofs.Figures.{enough}

-- as many amounts as legs
pub as_many : (s : ℕ) (xs : List Counts) (items : List Amount) → Measures s xs items → length items ≡ length xs
as_many s [] [] m = refl
as_many s [] (a ∷ items) m = absurd m
as_many s (x ∷ xs) [] m = absurd m
as_many s (x ∷ xs) (a ∷ items) m = ap suc (as_many s xs items m.1)

-- one leg more is measured
pub measures_more : (s : ℕ) (xs : List Counts) (items : List Amount) (x : Counts) (a : Amount) → Measures s xs items → (a.counts ≡ x) → Figure s x a.millimetres → Measures s (xs ++ x ∷ []) (items ++ a ∷ [])
measures_more s [] [] x a m e f = ((e, f), tt)
measures_more s [] (b ∷ items) x a m e f = absurd m
measures_more s (y ∷ xs) [] x a m e f = absurd m
measures_more s (y ∷ xs) (b ∷ items) x a m e f = (m.0, measures_more s xs items x a m.1 e f)

unfoldable amount : ℕ → ℕ → ℕ → Amount
amount a b m = record { counts = record { straight = a; diagonal = b }; millimetres = m }

same_amount : (a b m c d n : ℕ) → a ≡ c → b ≡ d → m ≡ n → amount a b m ≡ amount c d n
same_amount a b m c d n e f g = cc

-- one leg more is added
pub in_all_more : (items : List Amount) (a : Amount) → in_all (items ++ a ∷ []) ≡ plus_amount (in_all items) a
unfolding amount
in_all_more [] a =
    same_amount _ _ _ _ _ _ (add-zero a.counts.straight ∙ sym (zero-add a.counts.straight)) (add-zero a.counts.diagonal ∙ sym (zero-add a.counts.diagonal))
    (add-zero a.millimetres ∙ sym (zero-add a.millimetres))
in_all_more (b ∷ items) a =
    let rest = in_all items in
    ap (plus_amount b) (in_all_more items a)
    ∙ same_amount _ _ _ _ _ _ (sym (add_assoc b.counts.straight rest.counts.straight a.counts.straight))
    (sym (add_assoc b.counts.diagonal rest.counts.diagonal a.counts.diagonal)) (sym (add_assoc b.millimetres rest.millimetres a.millimetres))

-- a question that was passed
passed : {X : Type 0} (b : Bool) (o : Option X) (e : X) → cond b o (Some e) ≡ None → (b ≡ true) × (o ≡ None)
passed true o e h = (refl, h)
passed false o e h = let z : ◌≡◌ {A = ℕ} 0 1 = cc in absurd (omega arith)

-- a leg that was passed
passed_leg : (o : Option Refusal) (k : ℕ) (rest : Option ListingRefusal) → or_later k o rest ≡ None → (o ≡ None) × (rest ≡ None)
passed_leg None k rest h = (refl, h)
passed_leg (Some e) k rest h = let z : ◌≡◌ {A = ℕ} 0 1 = cc in absurd (omega arith)

-- legs that are not refused leave those after them to be asked
asked_on : (s k : ℕ) (xs ys : List Counts) → first_refused s k xs ≡ None → first_refused s k (xs ++ ys) ≡ first_refused s (k + length xs) ys
asked_on s k [] ys fine = ap (λ (n : ℕ). first_refused s n ys) (sym (add-zero k))
asked_on s k (x ∷ xs) ys fine =
    let here = passed_leg (refusal s x) k (first_refused s (k + 1) xs) fine in
    let next : k + 1 + length xs ≡ k + suc (length xs) = omega arith in
    ap (λ (o : Option Refusal). or_later k o (first_refused s (k + 1) (xs ++ ys))) here.0
    ∙ asked_on s (k + 1) xs ys here.1 ∙ ap (λ (n : ℕ). first_refused s n ys) next

-- one leg more is not refused
pub fine_more : (s k : ℕ) (xs : List Counts) (x : Counts) → first_refused s k xs ≡ None → refusal s x ≡ None → first_refused s k (xs ++ x ∷ []) ≡ None
fine_more s k xs x fine one = asked_on s k xs (x ∷ []) fine ∙ ap (λ (o : Option Refusal). or_later (k + length xs) o None) one

-- the first leg that is refused answers
pub refused_here : (s : ℕ) (xs : List Counts) (i : ℕ) (d : Counts) (e : Refusal) (r : ListingRefusal) → i < length xs → first_refused s 1 (take i xs) ≡ None → refusal s (get_or xs i d) ≡ Some e → r ≡ of_leg (i + 1) e → first_refused s 1 xs ≡ Some r
refused_here s xs i d e r inside fine one is =
    let parts : xs ≡ take i xs ++ get_or xs i d ∷ drop (i + 1) xs = sym (take-append-drop i xs) ∙ ap (λ (ys : List Counts). take i xs ++ ys) (drop_more xs i d inside) in
    let number : 1 + length (take i xs) ≡ i + 1 = let e = length-take-le i xs (omega arith) in omega arith in
    ap (first_refused s 1) parts ∙ asked_on s 1 (take i xs) (get_or xs i d ∷ drop (i + 1) xs) fine
    ∙ ap (λ (o : Option Refusal). or_later (1 + length (take i xs)) o (first_refused s (1 + length (take i xs) + 1) (drop (i + 1) xs))) one
    ∙ ap (λ (k : ℕ). Some (of_leg k e)) number ∙ ap Some (sym is)

-- an amount of at most n legs
pub record Few (n : ℕ) (a : Amount) : Type 0 where
  pub straight : a.counts.straight ≤ n * 1048576
  pub diagonal : a.counts.diagonal ≤ n * 1048576
  pub figure : a.millimetres ≤ n * 6291456000

-- a leg that is not refused is one leg: each diagonal step is covered by two straight ones
pub few_one : (s : ℕ) (x : Counts) (a : Amount) → refusal s x ≡ None → a.counts ≡ x → Figure s x a.millimetres → Few 1 a
few_one s x a fine e f =
    let side = passed (leb 1 s && leb s 2000) _ _ fine in
    let counts = passed (leb x.straight limit && leb x.diagonal limit) _ _ side.1 in
    let s-small = leb-true s 2000 (and_parts (leb 1 s) (leb s 2000) side.0).1 in
    let both = and_parts (leb x.straight limit) (leb x.diagonal limit) counts.0 in
    let a_small = leb-true x.straight limit both.0 in
    let b-small = leb-true x.diagonal limit both.1 in
    let straight = mul-le s x.straight 2000 limit s-small a_small in
    let diagonal = mul-le s x.diagonal 2000 limit s-small b-small in
    let most = f.least (s * x.straight + 2 * (s * x.diagonal)) (enough s x) in
    let one = ap (λ (n : Counts). n.straight) e in
    let two = ap (λ (n : Counts). n.diagonal) e in
    record { straight = omega arith; diagonal = omega arith; figure = omega arith }

-- all legs together
pub few_all : (s k : ℕ) (xs : List Counts) (items : List Amount) → first_refused s k xs ≡ None → Measures s xs items → Few (length xs) (in_all items)
few_all s k [] [] fine m = record { straight = omega arith; diagonal = omega arith; figure = omega arith }
few_all s k [] (a ∷ items) fine m = absurd m
few_all s k (x ∷ xs) [] fine m = absurd m
few_all s k (x ∷ xs) (a ∷ items) fine m =
    let here = passed_leg (refusal s x) k (first_refused s (k + 1) xs) fine in
    let one = few_one s x a here.0 m.0.0 m.0.1 in
    let rest = few_all s (k + 1) xs items here.1 m.1 in
    record { straight = omega arith; diagonal = omega arith; figure = omega arith }

-- counts have at most 10 digits, and figures at most 20
values_short : (n : ℕ) (a : Amount) → n ≤ 64 → Few n a → length (values a) ≤ 44
values_short n a small few =
    length_three_values a.counts.straight a.counts.diagonal a.millimetres 10 10 20 (omega arith) (omega arith) (omega arith) (omega arith) (omega arith) (omega arith) (omega arith) (omega arith) (omega arith)

leg_lines_short : (s k : ℕ) (xs : List Counts) (items : List Amount) → first_refused s k xs ≡ None → Measures s xs items → k + length xs < 100 → length (leg_lines k items) ≤ 46 * length xs
unfolding leg_lines
leg_lines_short s k [] [] fine m small = omega arith
leg_lines_short s k [] (a ∷ items) fine m small = absurd m
leg_lines_short s k (x ∷ xs) [] fine m small = absurd m
leg_lines_short s k (x ∷ xs) (a ∷ items) fine m small =
    let here = passed_leg (refusal s x) k (first_refused s (k + 1) xs) fine in
    let name = length-decimal-le 2 k (omega arith) (omega arith) (omega arith) in
    let line = values_short 1 a (omega arith) (few_one s x a here.0 m.0.0 m.0.1) in
    let rest = leg_lines_short s (k + 1) xs items here.1 m.1 (omega arith) in
    simp length-append (omega arith)

-- 4,096 bytes hold every listing
pub listing_short : (s : ℕ) (xs : List Counts) (items : List Amount) → first_refused s 1 xs ≡ None → Measures s xs items → length xs ≤ 64 → length (listing_text items) ≤ 4096
unfolding listing_text names_line
listing_short s xs items fine m small =
    let lines = leg_lines_short s 1 xs items fine m (omega arith) in
    let all = values_short (length xs) (in_all items) small (few_all s 1 xs items fine m) in
    simp length-append (omega arith)

-- once the first two questions are passed, the legs are asked
pub legs_asked : (s : ℕ) (xs : List Counts) (room : ℕ) → 2 ≤ length xs → length xs ≤ 64 → 4096 ≤ room → listing_refusal s xs room ≡ first_refused s 1 xs
legs_asked s xs room some few enough = grind (arith, nat_tests)
