-- Tests that can be computed, and beside each what it tells when it passes.
use Rattle.std.proofs.Common.{◌≡◌, ℕ, zero, suc, ◌-◌, ◌*◌, ◌<◌, Bool, true, false, cond, not, ◌&&◌, ◌||◌, eqb, ltb, leb, List, [], ◌∷◌, ℤ, pos, negsuc, Some, None, Option, sym, refl, ap, ◌∙◌, subst, inl, inr, arith}
use mathlib.Core.Bool.{false≢true}
use Rattle.std.proofs.lemmas.Bool.{and_parts, or_cases, both_ways, not-true, eqb-true, ltb-true, leb-true, cases_lt}
use Rattle.std.proofs.lemmas.Bool.Decides.{Decides-below_and}
use Rattle.std.proofs.ByRecursion.{Decides-by_and}
use Rattle.std.proofs.lemmas.Nat.{mul-le}
use Rattle.floor.specs.declared.Cell.{Cell}
use Rattle.floor.specs.declared.Counts.{Counts}
use Rattle.floor.specs.declared.Heading.{Heading}
use Rattle.floor.specs.declared.Heading.TheVariants.{North, NorthEast, East, SouthEast, South, SouthWest, West, NorthWest}
use Rattle.floor.specs.Tally.{plus, steps, blocks, Dominates}
use Rattle.floor.specs.Plane.{Point, point, step}
use Rattle.floor.specs.Plans.{Plan, Sized, opens, legal}
use Rattle.floor.specs.Routes.{end, one, tally, Walk, Route}
use Rattle.floor.specs.Jumps.{walk}
use Rattle.floor.proofs.Plane.{each, at}
use Rattle.floor.proofs.Cells.{found}
use Rattle.floor.proofs.Legal.{legal_fair}
use Rattle.rate.specs.Exact.{squared}
use Rattle.listing.specs.Millimetres.{Figure}
use Rattle.worked.specs.Examples.{cell, Sketch, all_open, without, drawn}
use Rattle.worked.proofs.Notes.{Unbeaten}

-- ---- values

-- values that have a number each are the same where their numbers are
pub by_number : {A : Type 0} (number : A → ℕ) (named : ℕ → A) → ((a : A) → named (number a) ≡ a) → (a b : A) → eqb (number a) (number b) ≡ true → a ≡ b
by_number number named back a b e = sym (back a) ∙ ap named (eqb-true (number a) (number b) e) ∙ back b

abbrev pub same_bool : Bool → Bool → Bool
same_bool a b = eqb (cond a 1 0) (cond b 1 0)

pub same_bool_is : (a b : Bool) → same_bool a b ≡ true → a ≡ b
same_bool_is = by_number (λ b. cond b 1 0) (λ n. eqb n 1) back
  where
    back : (b : Bool) → eqb (cond b 1 0) 1 ≡ b
    back true = refl
    back false = refl

abbrev pub same_jump : ℕ × Bool → ℕ × Bool → Bool
same_jump j k = eqb j.0 k.0 && same_bool j.1 k.1

pub same_jump_is : (j k : ℕ × Bool) → same_jump j k ≡ true → j ≡ k
same_jump_is j k e =
    let h = and_parts _ _ e in
    let a = eqb-true j.0 k.0 h.0 in
    let b = same_bool_is j.1 k.1 h.1 in
    λ i. (a i, b i)

abbrev pub same_counts : Counts → Counts → Bool
same_counts x y = eqb x.straight y.straight && eqb x.diagonal y.diagonal

same_counts_is : (x y : Counts) → same_counts x y ≡ true → x ≡ y
same_counts_is x y e =
    let h = and_parts _ _ e in
    let a = eqb-true x.straight y.straight h.0 in
    let b = eqb-true x.diagonal y.diagonal h.1 in
    λ i. record { straight = a i; diagonal = b i }

abbrev lies : ℤ → ℕ → Bool
lies (pos m) n = eqb m n
lies (negsuc m) n = false

lies_is : (z : ℤ) (n : ℕ) → lies z n ≡ true → z ≡ pos n
lies_is (pos m) n e = ap pos (eqb-true m n e)
lies_is (negsuc m) n e = absurd (false≢true e)

-- the point is that of the cell
abbrev pub at_cell : Point → Cell → Bool
at_cell x c = lies x.row c.row && lies x.col c.col

at_cell_is : (x : Point) (c : Cell) → at_cell x c ≡ true → x ≡ point c
at_cell_is x c e = let h = and_parts _ _ e in at (lies_is x.row c.row h.0) (lies_is x.col c.col h.1)

-- ---- plans

abbrev pub in_limits : Sketch → Bool
in_limits k = (leb 1 k.rows && leb k.rows 128) && (leb 1 k.cols && leb k.cols 128)

shut_stays : (b free : Bool) → free ≡ false → cond b false free ≡ false
shut_stays true free e = refl
shut_stays false free e = e

sized_without : (p : Plan) → Sized p → (xs : List Cell) → Sized (without p xs)
sized_without p z [] = z
sized_without p z (x ∷ xs) =
    let y = sized_without p z xs in
    record { few_rows = y.few_rows; few_cols = y.few_cols; no_rows = y.no_rows; no_cols = y.no_cols; bounded = λ r c e. shut_stays _ _ (y.bounded r c e) }

pub in_limits_is : (k : Sketch) → in_limits k ≡ true → Sized (drawn k)
in_limits_is k e =
    let h = and_parts _ _ e in
    let r = and_parts _ _ h.0 in
    let c = and_parts _ _ h.1 in
    let some-rows = leb-true 1 k.rows r.0 in
    let few_rows = leb-true k.rows 128 r.1 in
    let some-cols = leb-true 1 k.cols c.0 in
    let few_cols = leb-true k.cols 128 c.1 in
    sized_without (all_open k.rows k.cols)
    (record { few_rows = few_rows; few_cols = few_cols; no_rows = λ n. absurd (omega arith); no_cols = λ n. absurd (omega arith); bounded = λ _ _ out. out })
    k.shut

-- ---- routes

abbrev walked : (Point → Bool) → Point → List Heading → Bool
walked free x [] = true
walked free x (h ∷ hs) = legal free x h && walked free (step h x) hs

walked_is : (free : Point → Bool) (x : Point) (hs : List Heading) → walked free x hs ≡ true → Walk legal free x hs
walked_is free x [] e = tt
walked_is free x (h ∷ hs) e = let l = and_parts _ _ e in (l.0, walked_is free (step h x) hs l.1)

-- these steps are a route from s to t with counts n
abbrev pub routed : Plan → Cell → Cell → Counts → List Heading → Bool
routed p s t n hs = (opens p (point s) && walked (opens p) (point s) hs) && (at_cell (end (point s) hs) t && same_counts (tally hs) n)

pub routed_is : (p : Plan) (s t : Cell) (n : Counts) (hs : List Heading) → routed p s t n hs ≡ true → Route p s t n
routed_is p s t n hs e =
    let h = and_parts _ _ e in
    let a = and_parts _ _ h.0 in
    let b = and_parts _ _ h.1 in
    record {
      headings = hs;
      starts = a.0;
      walks = walked_is (opens p) (point s) hs a.1;
      ends = at_cell_is (end (point s) hs) t b.0;
      counted = same_counts_is (tally hs) n b.1;
    }

abbrev pub dominates : Counts → Counts → Bool
dominates x y = leb (steps x) (steps y) && leb (blocks x) (blocks y)

pub dominates_is : (x y : Counts) → dominates x y ≡ true → Dominates x y
dominates_is x y e = let h = and_parts _ _ e in record { fewer = leb-true _ _ h.0; shorter = leb-true _ _ h.1 }

-- ---- every step of a plan

abbrev every : {A : Type 0} → (A → Bool) → List A → Bool
every test [] = true
every test (x ∷ xs) = test x && every test xs

abbrev pub below : (ℕ → Bool) → ℕ → Bool
below test zero = true
below test (suc n) = test n && below test n

pub below_is : (test : ℕ → Bool) (n : ℕ) → below test n ≡ true → (i : ℕ) → i < n → test i ≡ true
below_is test n = (Decides-below_and test (λ i. test i ≡ true) (below test) (λ i. (λ e. e, λ e. e)) refl (λ _. refl) n).0

abbrev headings : List Heading
headings = North ∷ NorthEast ∷ East ∷ SouthEast ∷ South ∷ SouthWest ∷ West ∷ NorthWest ∷ []

all_headings : (test : Heading → Bool) → every test headings ≡ true → (h : Heading) → test h ≡ true
all_headings test e =
    let a = (Decides-by_and test (λ h. test h ≡ true) (every test) (λ h. (λ e. e, λ e. e)) refl (λ _ _. refl) headings).0 e in
    each (λ h. test h ≡ true) a.0 a.1.0 a.1.1.0 a.1.1.1.0 a.1.1.1.1.0 a.1.1.1.1.1.0 a.1.1.1.1.1.1.0 a.1.1.1.1.1.1.1.0

module _ (p : Plan) (noted : Point → Counts) where
  abbrev unbeaten_at : Point → Heading → Bool
  unbeaten_at x h = not (legal (opens p) x h) || dominates (noted (step h x)) (plus (noted x) (one h))

  -- no legal step from any cell does better than what is noted
  abbrev pub unbeaten : Bool
  unbeaten = below (λ r. below (λ c. every (unbeaten_at (point (cell r c))) headings) p.cols) p.rows

  pub unbeaten_is : unbeaten ≡ true → Unbeaten p noted
  unbeaten_is e x h l =
      let f = found p x (legal_fair.leaves (opens p) x h l) in
      let r = f.cell.row in
      let c = f.cell.col in
      let row = below_is (λ r. below (λ c. every (unbeaten_at (point (cell r c))) headings) p.cols) p.rows e r f.in_rows in
      let here = below_is (λ c. every (unbeaten_at (point (cell r c))) headings) p.cols row c f.in_cols in
      let passed : unbeaten_at x h ≡ true = subst (λ (y : Point). unbeaten_at y h ≡ true) f.is_cell (all_headings (unbeaten_at (point (cell r c))) here h) in
      elim (or_cases _ _ passed) [
        | inl closed ↦ absurd (both_ways (legal (opens p) x h) (not-true _ closed) l)
        | inr better ↦ dominates_is _ _ better
      ]

-- ---- successors and figures

-- a successor so many steps on is the cell x
abbrev pub reaches : Heading → Cell → Cell → Option ℕ → Bool
reaches h s x (Some i) = at_cell (walk h i (point s)) x
reaches h s x None = false

pub reaches_is : (h : Heading) (s x : Cell) (o : Option ℕ) → reaches h s x o ≡ true → (i : ℕ) × (o ≡ Some i) × (walk h i (point s) ≡ point x)
reaches_is h s x (Some i) e = (i, refl, at_cell_is (walk h i (point s)) x e)
reaches_is h s x None e = absurd (false≢true e)

-- m covers the counts, and a millimetre less does not
abbrev pub tight : ℕ → Counts → ℕ → Bool
tight s x m =
    (leb (s * x.straight) m && leb (2 * squared (s * x.diagonal)) (squared (m - s * x.straight)))
    && (eqb m (s * x.straight) || ltb (squared (m - s * x.straight - 1)) (2 * squared (s * x.diagonal)))

pub tight_is : (s : ℕ) (x : Counts) (m : ℕ) → tight s x m ≡ true → Figure s x m
tight_is s x m e =
    let h = and_parts _ _ e in
    let c = and_parts _ _ h.0 in
    let from = leb-true (s * x.straight) m c.0 in
    record {
      covers = (from, leb-true _ _ c.1);
      least = λ n covered. elim (cases_lt n m) [
        | inr more ↦ more
        | inl less ↦
            let low = covered.0 in
            let far = covered.1 in
            elim (or_cases _ _ h.1) [
              | inl level ↦ let z = eqb-true m (s * x.straight) level in absurd (omega arith)
              | inr short ↦
                  let u = ltb-true _ _ short in
                  let v = mul-le (n - s * x.straight) (n - s * x.straight) (m - s * x.straight - 1) (m - s * x.straight - 1) (omega arith) (omega arith) in
                  absurd (omega arith)
            ]
      ];
    }
