-- Idea: a loop that is answered has measured each of its legs, and a cheapest leg is short enough to have a figure.
use Rattle.std.proofs.Common.{◌≡◌, ℕ, ◌+◌, ◌≤◌, ◌&&◌, leb, List, [], ◌∷◌, length, IfOk, None, Ok, Err, Option, Result, refl, ap, ◌∙◌, subst, inl, inr, arith}
use Rattle.std.proofs.lemmas.Bool.{and_parts, leb-true}
use Rattle.std.proofs.lemmas.Bool.Decides.{nat_tests}
use Rattle.floor.specs.declared.Cell.{Cell}
use Rattle.floor.specs.declared.Counts.{Counts}
use Rattle.floor.specs.Plans.{Plan, Sized, legal}
use Rattle.floor.proofs.Legal.{legal_fair}
use Rattle.rate.specs.declared.Comparison.{Comparison}
use Rattle.rate.specs.Laws.{AtLeast}
use Rattle.rate.specs.Exact.{exact}
use Rattle.rate.proofs.Lengths.{exact_lawful}
use Rattle.cheapest.specs.Cheapest.{Leg, legs, total, Tour, CheapestLegs}
use Rattle.cheapest.proofs.Rivals.{rivals}
use Rattle.lengths.specs.Questions.{ask}
use Rattle.lengths.proofs.Asked.{yes_first}
use Rattle.planner.specs.declared.answers.LoopRefusal.{LoopRefusal}
use Rattle.planner.specs.declared.answers.LoopRefusal.TheVariants.{CellCount, ShortLegs}
use Rattle.planner.specs.Loops.{LoopTold, NoCheaperTour}
use Rattle.planner.specs.Touring.{Toured}
use Rattle.planner.proofs.Legs.{legs_length, few_cells}
use Rattle.planner.proofs.Wholes.{all_legs, loop_by}
use Rattle.listing.specs.declared.millimetres.Refusal.{Refusal}
use Rattle.listing.specs.Millimetres.{refusal}
use Rattle.listing.specs.Lines.{or_later, first_refused, listing_refusal}
use Rattle.listing.proofs.Listings.{legs_asked}

-- the same loop on the same plan, under the same rate
pub same_tour : (order other : Counts → Counts → Comparison) (p q : Plan) (cells : List Cell) (w v : ℕ) (before after : List Counts) (r : Result Counts LoopRefusal) →
    order ≡ other → p ≡ q → Toured order legal p cells w v before after r → Toured other legal q cells w v before after r
same_tour order other p q cells w v before after r e f t =
    subst (λ (x : Plan). Toured other legal x cells w v before after r) f (subst (λ (o : Counts → Counts → Comparison). Toured o legal p cells w v before after r) e t)

-- a loop that is answered found room for its legs
pub legs_fit : (p : Plan) (cells : List Cell) (w v : ℕ) (before after : List Counts) (r : Result Counts LoopRefusal) → Toured exact legal p cells w v before after r → IfOk r (λ _. length cells ≤ length before)
legs_fit p cells w v before after (Err e) t = tt
legs_fit p cells w v before after (Ok n) t = elim (loop_by exact legal p w v cells (length before) t.measured (Ok n) t.told) [
  | inl x ↦ absurd (let f = x.2 in let z : ◌≡◌ {A = ℕ} 0 1 = cc in omega arith)
  | inr x ↦ (few_cells cells (length before) x.0).1
]

-- what an answered loop is
pub record Whole (p : Plan) (cells : List Cell) (ns : List Counts) (n : Counts) : Type 0 where
  pub cheapest : CheapestLegs exact legal p (legs cells) ns
  pub sum : n ≡ total ns
  pub some : 2 ≤ length cells
  pub few : length cells ≤ 64
  pub least : (ms : List Counts) → Tour legal p (legs cells) ms → AtLeast exact (total ms) (total ns)

pub whole : (p : Plan) (cells : List Cell) (w v l : ℕ) (ns : List Counts) (n : Counts) → LoopTold exact legal p cells w v l ns (Ok n) → NoCheaperTour exact legal p cells (Ok n) → Whole p cells ns n
whole p cells w v l ns n told least = elim (loop_by exact legal p w v cells l ns (Ok n) told) [
  | inl x ↦ absurd (let f = x.2 in let y : ◌≡◌ {A = ℕ} 0 1 = cc in omega arith)
  | inr x ↦
      let every = all_legs exact legal p w v ns 1 (legs cells) ns n x.1 in
      let asked = yes_first (ask (leb 2 (length cells) && leb (length cells) 64) CellCount) (ask (leb (length cells) l) ShortLegs ∷ []) x.0 in
      record {
        cheapest = every.0;
        sum = every.1;
        some = leb-true 2 (length cells) (and_parts (leb 2 (length cells)) (leb (length cells) 64) asked.0).0;
        few = (few_cells cells l x.0).0;
        least = λ ms t. subst (λ (m : Counts). AtLeast exact (total ms) m) every.1 (least ms t);
      }
]

-- as many counts as legs
pub as_many : (p : Plan) (ls : List Leg) (ns : List Counts) → CheapestLegs exact legal p ls ns → length ns ≡ length ls
as_many p [] [] c = refl
as_many p [] (n ∷ ns) c = absurd c
as_many p (l ∷ ls) [] c = absurd c
as_many p (l ∷ ls) (n ∷ ns) c = let rest = as_many p ls ns c.1 in omega arith

-- a cheapest leg has at most 16,383 steps
fine_leg : (x : Counts) → x.straight + x.diagonal ≤ 16383 → refusal 1000 x ≡ None
fine_leg x few = grind (arith, nat_tests)

fine_legs : (p : Plan) → Sized p → (k : ℕ) (ls : List Leg) (ns : List Counts) → CheapestLegs exact legal p ls ns → first_refused 1000 k ns ≡ None
fine_legs p z k [] [] c = refl
fine_legs p z k [] (n ∷ ns) c = absurd c
fine_legs p z k (l ∷ ls) [] c = absurd c
fine_legs p z k (l ∷ ls) (n ∷ ns) c =
    let one = fine_leg n ((rivals exact exact_lawful legal legal_fair).short p z l.from l.to n c.0) in
    ap (λ (o : Option Refusal). or_later k o (first_refused 1000 (k + 1) ns)) one ∙ fine_legs p z (k + 1) ls ns c.1

-- so a loop that is answered is always listed
pub never_refused : (p : Plan) → Sized p → (cells : List Cell) (ns : List Counts) (n : Counts) → Whole p cells ns n → listing_refusal 1000 ns 4096 ≡ None
never_refused p z cells ns n h =
    let many = as_many p (legs cells) ns h.cheapest in
    let long = legs_length cells in
    let some = h.some in
    let few = h.few in
    legs_asked 1000 ns 4096 (omega arith) (omega arith) (omega arith) ∙ fine_legs p z 1 (legs cells) ns h.cheapest
