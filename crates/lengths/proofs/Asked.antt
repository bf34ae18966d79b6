-- Where no question is answered no, each is answered yes; and what is then told is a cheapest route, or that there is none.
use Rattle.std.proofs.Common.{◌≡◌, ℕ, ◌≤◌, Bool, true, false, cond, ◌&&◌, leb, List, ◌∷◌, Some, None, Ok, Err, Option, sym, refl, subst, arith}
use Rattle.std.proofs.lemmas.Bool.{and_parts, leb-true}
use Rattle.floor.specs.declared.Cell.{Cell}
use Rattle.floor.specs.declared.Counts.{Counts}
use Rattle.floor.specs.Plane.{point}
use Rattle.floor.specs.Plans.{Plan, inside, is_open, opens}
use Rattle.floor.specs.Routes.{Laying, Laid}
use Rattle.rate.specs.declared.Comparison.{Comparison}
use Rattle.cheapest.specs.Cheapest.{Cheapest}
use Rattle.lengths.specs.declared.answers.Refusal.{Refusal}
use Rattle.lengths.specs.declared.answers.Refusal.TheVariants.{Outside, TargetOutside, Closed, TargetClosed, ShortWork, NoRoute}
use Rattle.lengths.specs.Questions.{Question, ask, first_no, places}
use Rattle.lengths.specs.Answers.{CostTold}

pub yes_first : {A : Type 0} (q : Question A) (qs : List (Question A)) → first_no (q ∷ qs) ≡ None → (q.yes_to ≡ true) × (first_no qs ≡ None)
yes_first q qs e = by q.yes_to refl e
  where
    by : (b : Bool) → q.yes_to ≡ b → cond b (first_no qs) (Some q.else) ≡ None → (q.yes_to ≡ true) × (first_no qs ≡ None)
    by true h e = (h, e)
    by false h e = absurd (let z : ◌≡◌ {A = ℕ} 0 1 = cc in omega arith)

-- what the questions about a length have settled
pub record Passed (p : Plan) (s t : Cell) (w v : ℕ) : Type 0 where
  pub start_inside : inside p s ≡ true
  pub target_inside : inside p t ≡ true
  pub start_open : is_open p s ≡ true
  pub target_open : is_open p t ≡ true
  pub entries_fit : places p ≤ w
  pub waiting_fit : places p ≤ v

pub passed : (p : Plan) (s t : Cell) (w v : ℕ) (more : List (Question Refusal)) →
    first_no (ask (inside p s) Outside ∷ ask (inside p t) TargetOutside ∷ ask (is_open p s) Closed ∷ ask (is_open p t) TargetClosed ∷ ask (leb (places p) w && leb (places p) v) ShortWork ∷ more) ≡ None →
    Passed p s t w v × (first_no more ≡ None)
passed p s t w v more e =
    let work = ask (leb (places p) w && leb (places p) v) ShortWork in
    let a = yes_first (ask (inside p s) Outside) (ask (inside p t) TargetOutside ∷ ask (is_open p s) Closed ∷ ask (is_open p t) TargetClosed ∷ work ∷ more) e in
    let b = yes_first (ask (inside p t) TargetOutside) (ask (is_open p s) Closed ∷ ask (is_open p t) TargetClosed ∷ work ∷ more) a.1 in
    let c = yes_first (ask (is_open p s) Closed) (ask (is_open p t) TargetClosed ∷ work ∷ more) b.1 in
    let d = yes_first (ask (is_open p t) TargetClosed) (work ∷ more) c.1 in
    let f = yes_first work more d.1 in
    let g = and_parts (leb (places p) w) (leb (places p) v) f.0 in
    (record { start_inside = a.0; target_inside = b.0; start_open = c.0; target_open = d.0; entries_fit = leb-true (places p) w g.0; waiting_fit = leb-true (places p) v g.1 }, f.1)

module _ (order : Counts → Counts → Comparison) (may : Laying) (p : Plan) (s t : Cell) (o : Option Refusal) (e : o ≡ None) where
  pub told_cost : (n : Counts) → Cheapest order may p s t n → CostTold order may p s t o (Ok n)
  told_cost n c = subst (λ q. CostTold order may p s t q (Ok n)) (sym e) c

  pub told_none : ((n : Counts) → Laid may (opens p) (point s) (point t) n → ⊥) → CostTold order may p s t o (Err NoRoute)
  told_none h = subst (λ q. CostTold order may p s t q (Err NoRoute)) (sym e) (refl, h)
