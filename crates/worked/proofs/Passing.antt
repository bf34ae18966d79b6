-- Idea: one test for all kinds of examples, computed; one lemma that turns the test into the fact; the table passes.
use Rattle.std.proofs.Common.{◌≡◌, ℕ, Bool, true, cond, ◌&&◌, eqb, List, [], ◌∷◌, get_or, ℤ, pos, negsuc, Some, None, Ok, Err, Option, refl}
use Rattle.std.specs.List.{AllByRecursion}
use Rattle.std.proofs.lemmas.Bool.{and_parts, eqb-true}
use Rattle.floor.specs.declared.Counts.{Counts}
use Rattle.floor.specs.declared.Heading.{Heading}
use Rattle.floor.specs.declared.Heading.TheVariants.{North, East, South, SouthEast, NorthEast}
use Rattle.floor.specs.Tally.{counts, none}
use Rattle.floor.specs.Plane.{Point, point, step}
use Rattle.floor.specs.Plans.{legal}
use Rattle.floor.specs.Jumps.{jump_of, stop, scan}
use Rattle.floor.specs.Places.{successor}
use Rattle.source.specs.Labels.{label_of}
use Rattle.rate.specs.declared.Comparison.{Comparison}
use Rattle.rate.specs.declared.Comparison.TheVariants.{Cheaper, Same, Dearer}
use Rattle.rate.specs.Exact.{exact}
use Rattle.rate.specs.Counter.{counter}
use Rattle.listing.specs.declared.millimetres.Refusal.{Refusal}
use Rattle.listing.specs.declared.millimetres.Refusal.TheVariants.{Side, Count}
use Rattle.listing.specs.Millimetres.{refusal_number, refusal}
use Rattle.worked.specs.Examples.{drawn, Example, jumps, runs, succeeds, compares, measures, Holds}
use Rattle.worked.specs.Table.{table}
use Rattle.worked.proofs.Notes.{only_cheapest}
use Rattle.worked.proofs.Tests.{by_number, same_jump, same_jump_is, in_limits, in_limits_is, routed, routed_is, dominates, dominates_is, unbeaten, unbeaten_is, reaches, reaches_is, tight, tight_is}

-- What a test of a cheapest route goes by: the steps of the route, and at each cell the counts of a cheapest one to it.
record Hint : Type 0 where
  headings : List Heading
  notes : List (List Counts)

-- the other kinds need none
abbrev no_hint : Hint
no_hint = record { headings = []; notes = [] }

-- what is noted at a point; outside it does not matter
abbrev noted_at : List (List Counts) → ℤ → ℤ → Counts
noted_at rows (pos r) (pos c) = get_or (get_or rows r []) c none
noted_at rows (pos r) (negsuc c) = none
noted_at rows (negsuc r) (pos c) = none
noted_at rows (negsuc r) (negsuc c) = none

abbrev noted : Hint → Point → Counts
noted w x = noted_at w.notes x.row x.col

abbrev rank : Comparison → ℕ
rank Cheaper = 0
rank Same = 1
rank Dearer = 2

abbrev same_comparison : Comparison → Comparison → Bool
same_comparison x y = eqb (rank x) (rank y)

same_comparison_is : (x y : Comparison) → same_comparison x y ≡ true → x ≡ y
same_comparison_is = by_number rank named back
  where
    named : ℕ → Comparison
    named n = cond (eqb n 0) Cheaper (cond (eqb n 1) Same Dearer)

    back : (x : Comparison) → named (rank x) ≡ x
    back Cheaper = refl
    back Same = refl
    back Dearer = refl

-- a refusal's number, or 0 where nothing is refused
abbrev reason : Option Refusal → ℕ
reason None = 0
reason (Some e) = refusal_number e

abbrev same_refusal : Option Refusal → Option Refusal → Bool
same_refusal x y = eqb (reason x) (reason y)

same_refusal_is : (x y : Option Refusal) → same_refusal x y ≡ true → x ≡ y
same_refusal_is = by_number reason named back
  where
    named : ℕ → Option Refusal
    named n = cond (eqb n 0) None (cond (eqb n 12) (Some Side) (Some Count))

    back : (x : Option Refusal) → named (reason x) ≡ x
    back None = refl
    back (Some Side) = refl
    back (Some Count) = refl

abbrev passes : Hint → Example → Bool
passes w (jumps k x h answer label) = same_jump (jump_of (drawn k) x h) answer && eqb (label_of (jump_of (drawn k) x h)) label
passes w (runs k s t n) =
    (in_limits k && routed (drawn k) s t n w.headings)
    && (unbeaten (drawn k) (noted w) && (dominates (noted w (point s)) none && dominates n (noted w (point t))))
passes w (succeeds k s t h x) = reaches h s x (successor (drawn k) (point t) (point s) h)
passes w (compares x y by_length by-price) = same_comparison (exact x y) by_length && same_comparison (counter x y) by-price
passes w (measures s n (Ok m)) = same_refusal (refusal s n) None && tight s n m
passes w (measures s n (Err e)) = same_refusal (refusal s n) (Some e)

passes_holds : (w : Hint) (e : Example) → passes w e ≡ true → Holds e
passes_holds w (jumps k x h answer label) t = let a = and_parts _ _ t in (same_jump_is _ _ a.0, eqb-true _ _ a.1)
passes_holds w (runs k s t n) e =
    let a = and_parts _ _ e in
    let b = and_parts _ _ a.0 in
    let c = and_parts _ _ a.1 in
    let d = and_parts _ _ c.1 in
    only_cheapest (drawn k) (noted w) (unbeaten_is (drawn k) (noted w) c.0) (in_limits_is k b.0) s t n
    (routed_is (drawn k) s t n w.headings b.1) (dominates_is _ _ d.0) (dominates_is _ _ d.1)
passes_holds w (succeeds k s t h x) e = reaches_is h s x (successor (drawn k) (point t) (point s) h) e
passes_holds w (compares x y by_length by-price) t =
    let a = and_parts _ _ t in (same_comparison_is (exact x y) by_length a.0, same_comparison_is (counter x y) by-price a.1)
passes_holds w (measures s n (Ok m)) t = let a = and_parts _ _ t in (same_refusal_is (refusal s n) None a.0, tight_is s n m a.1)
passes_holds w (measures s n (Err e)) t = same_refusal_is (refusal s n) (Some e) t

-- each example passes with its hint, and those past the last hint with none
abbrev all_pass : List Hint → List Example → Bool
all_pass ws [] = true
all_pass [] (e ∷ es) = passes no_hint e && all_pass [] es
all_pass (w ∷ ws) (e ∷ es) = passes w e && all_pass ws es

all_hold : (ws : List Hint) (es : List Example) → all_pass ws es ≡ true → AllByRecursion Holds es
all_hold ws [] t = tt
all_hold [] (e ∷ es) t = let a = and_parts _ _ t in (passes_holds no_hint e a.0, all_hold [] es a.1)
all_hold (w ∷ ws) (e ∷ es) t = let a = and_parts _ _ t in (passes_holds w e a.0, all_hold ws es a.1)

-- the closed cells are noted as nothing
abbrev hints : List Hint
hints =
    record {
      headings = South ∷ East ∷ East ∷ North ∷ [];
      notes =
          (counts 0 0 ∷ none ∷ counts 4 0 ∷ counts 3 1 ∷ counts 4 1 ∷ [])
          ∷ (counts 1 0 ∷ counts 2 0 ∷ counts 3 0 ∷ counts 4 0 ∷ counts 5 0 ∷ [])
          ∷ (counts 2 0 ∷ counts 1 1 ∷ counts 2 1 ∷ counts 3 1 ∷ counts 4 1 ∷ [])
          ∷ [];
    }
    ∷ record {
      headings = NorthEast ∷ East ∷ North ∷ [];
      notes =
          (counts 2 0 ∷ none ∷ counts 2 1 ∷ counts 1 2 ∷ counts 2 2 ∷ [])
          ∷ (counts 1 0 ∷ counts 0 1 ∷ counts 1 1 ∷ counts 2 1 ∷ counts 3 1 ∷ [])
          ∷ (counts 0 0 ∷ counts 1 0 ∷ counts 2 0 ∷ counts 3 0 ∷ counts 4 0 ∷ [])
          ∷ [];
    }
    ∷ record {
      headings = SouthEast ∷ SouthEast ∷ [];
      notes =
          (counts 0 0 ∷ counts 1 0 ∷ counts 2 0 ∷ [])
          ∷ (counts 1 0 ∷ counts 0 1 ∷ counts 1 1 ∷ [])
          ∷ (counts 2 0 ∷ counts 1 1 ∷ counts 0 2 ∷ [])
          ∷ [];
    }
    ∷ record {
      headings = South ∷ South ∷ East ∷ East ∷ [];
      notes =
          (counts 0 0 ∷ counts 1 0 ∷ counts 2 0 ∷ [])
          ∷ (counts 1 0 ∷ none ∷ counts 3 0 ∷ [])
          ∷ (counts 2 0 ∷ counts 3 0 ∷ counts 4 0 ∷ [])
          ∷ [];
    }
    ∷ []

table_passes : all_pass hints table ≡ true
unfolding step legal stop scan
table_passes = refl

pub table_holds : AllByRecursion Holds table
table_holds = all_hold hints table table_passes
