-- A loop that got a total measured every leg, each by a cheapest route; so no route for the whole loop is cheaper.
use Rattle.std.proofs.Common.{◌≡◌, ℕ, ◌+◌, ◌≤◌, ◌⊎◌, List, [], ◌∷◌, length, Some, None, Ok, Err, Option, Result, sym, refl, subst, inl, inr, arith}
use Rattle.floor.specs.declared.Cell.{Cell}
use Rattle.floor.specs.declared.Counts.{Counts}
use Rattle.floor.specs.Plane.{Point, point}
use Rattle.floor.specs.Plans.{Plan, Sized, opens}
use Rattle.floor.specs.Routes.{Laying, Laid, Fair}
use Rattle.rate.specs.declared.Comparison.{Comparison}
use Rattle.rate.specs.Laws.{AtLeast, Lawful}
use Rattle.cheapest.specs.Cheapest.{Cheapest, Leg, legs, total, Tour, CheapestLegs}
use Rattle.cheapest.proofs.Rivals.{rivals}
use Rattle.lengths.specs.declared.answers.Refusal.{Refusal}
use Rattle.planner.specs.declared.answers.LoopRefusal.{LoopRefusal}
use Rattle.lengths.specs.Questions.{first_no, length_questions}
use Rattle.lengths.specs.Answers.{CostTold}
use Rattle.planner.specs.Loops.{loop_questions, Looped, LoopBy, LoopTold, NoCheaperTour}
use Rattle.planner.proofs.Legs.{legs_length, few_cells}

pub few_legs : (cells : List Cell) (l : ℕ) → first_no (loop_questions cells l) ≡ None → length (legs cells) ≤ 64
few_legs cells l e = let f = few_cells cells l e in omega (arith, legs_length cells)

-- cheapest legs in one plan are a route for the loop in another, where every route of the one is a route of the other
pub legs_tour : (order : Counts → Counts → Comparison) (may : Laying) (p q : Plan) → ((x y : Point) (n : Counts) → Laid may (opens p) x y n → Laid may (opens q) x y n) →
    (ls : List Leg) (ns : List Counts) → CheapestLegs order may p ls ns → Tour may q ls ns
legs_tour order may p q f [] [] c = tt
legs_tour order may p q f [] (n ∷ ns) c = absurd c
legs_tour order may p q f (l ∷ ls) [] c = absurd c
legs_tour order may p q f (l ∷ ls) (n ∷ ns) c = (f (point l.from) (point l.to) n c.0.route, legs_tour order may p q f ls ns c.1)

module _ (order : Counts → Counts → Comparison) (may : Laying) (p : Plan) (w v : ℕ) where
  -- a length that is given is that of a cheapest route
  pub cheapest_told : (s t : Cell) (o : Option Refusal) (n : Counts) → CostTold order may p s t o (Ok n) → Cheapest order may p s t n
  cheapest_told s t (Some e) n c = absurd (let z : ◌≡◌ {A = ℕ} 0 1 = cc in omega arith)
  cheapest_told s t None n c = c

  pub all_legs : (written : List Counts) (k : ℕ) (ls : List Leg) (ns : List Counts) (n : Counts) → Looped order may p w v written k ls ns (Ok n) → CheapestLegs order may p ls ns × (n ≡ total written)
  all_legs written k [] [] n h = (tt, (cc))
  all_legs written k [] (m ∷ ns) n h = absurd h
  all_legs written k (l ∷ ls) [] n h = absurd (let e = h.1 in let z : ◌≡◌ {A = ℕ} 0 1 = cc in omega arith)
  all_legs written k (l ∷ ls) (m ∷ ns) n h =
      let r = all_legs written (k + 1) ls ns n h.1 in ((cheapest_told l.from l.to (first_no (length_questions p l.from l.to w v)) m h.0, r.0), r.1)

  -- a loop told by its questions, as they came out
  pub loop_by : (cells : List Cell) (l : ℕ) (ns : List Counts) (r : Result Counts LoopRefusal) → LoopTold order may p cells w v l ns r →
      ((e : LoopRefusal) × (first_no (loop_questions cells l) ≡ Some e) × (r ≡ Err e) × (ns ≡ [])) ⊎ ((first_no (loop_questions cells l) ≡ None) × Looped order may p w v ns 1 (legs cells) ns r)
  loop_by cells l ns r h = by (first_no (loop_questions cells l)) refl h
    where
      by : (o : Option LoopRefusal) → first_no (loop_questions cells l) ≡ o → LoopBy order may p cells w v ns o r →
          ((e : LoopRefusal) × (first_no (loop_questions cells l) ≡ Some e) × (r ≡ Err e) × (ns ≡ [])) ⊎ ((first_no (loop_questions cells l) ≡ None) × Looped order may p w v ns 1 (legs cells) ns r)
      by (Some e) q h = inl (e, q, h.0, h.1)
      by None q h = inr (q, h)

  module _ (law : Lawful order) (fair : Fair may) (z : Sized p) where
    -- no route for the whole loop is cheaper than the total
    pub whole_loop : (cells : List Cell) (l : ℕ) (ns : List Counts) (r : Result Counts LoopRefusal) → LoopTold order may p cells w v l ns r → NoCheaperTour order may p cells r
    whole_loop cells l ns (Err e) h = tt
    whole_loop cells l ns (Ok n) h = λ ms t. elim (loop_by cells l ns (Ok n) h) [
      | inl x ↦ absurd (let f = x.2 in let q : ◌≡◌ {A = ℕ} 0 1 = cc in omega arith)
      | inr x ↦
          let a = all_legs ns 1 (legs cells) ns n x.1 in
          subst (λ m. AtLeast order (total ms) m) (sym a.1) ((rivals order law may fair).whole p z (legs cells) (few_legs cells l x.0) ns a.0 ms t)
    ]
