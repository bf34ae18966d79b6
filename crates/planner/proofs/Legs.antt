-- A loop on its way: whatever is told of the legs that are left, with what was measured before it, is told of all the legs.
use Rattle.std.proofs.Common.{◌≡◌, ℕ, zero, suc, ◌+◌, ◌*◌, ◌<◌, ◌≤◌, ◌&&◌, leb, List, [], ◌∷◌, ◌++◌, length, get_or, take, drop, Some, None, Ok, Err, Option, Result, sym, refl, ap, ◌∙◌, subst, add-one, arith}
use Rattle.std.proofs.lemmas.List.{append-nil, append_assoc, length-take-le, take-append-drop, drop-drop, drop_more, drop_all}
use Rattle.std.proofs.lemmas.Bool.{and_parts, leb-true}
use Rattle.floor.specs.declared.Cell.{Cell}
use Rattle.floor.specs.declared.Counts.{Counts}
use Rattle.floor.specs.Tally.{counts, none, plus, steps}
use Rattle.floor.specs.Plans.{Plan, Sized, legal}
use Rattle.floor.proofs.Legal.{legal_fair}
use Rattle.rate.specs.declared.Comparison.{Comparison}
use Rattle.rate.specs.Laws.{Lawful}
use Rattle.cheapest.specs.Cheapest.{Leg, onward, legs, total}
use Rattle.cheapest.specs.Claims.{longest}
use Rattle.cheapest.proofs.Rivals.{rivals}
use Rattle.lengths.specs.declared.answers.Refusal.{Refusal}
use Rattle.lengths.specs.Questions.{ask, first_no, length_questions}
use Rattle.lengths.specs.Answers.{CostTold, LengthTold}
use Rattle.lengths.proofs.Asked.{yes_first}
use Rattle.planner.specs.declared.answers.LoopRefusal.{LoopRefusal}
use Rattle.planner.specs.declared.answers.LoopRefusal.TheVariants as loop
use Rattle.planner.specs.declared.answers.LoopRefusal.TheVariants.{CellCount, ShortLegs}
use Rattle.planner.specs.Loops.{loop_questions, Looped, LoopBy}
use Rattle.planner.specs.Touring.{between}

-- a leg that is not the last leads to the next cell
onward_next : (panel c : Cell) (cs : List Cell) (i : ℕ) (x : Cell) (l : Leg) → i < length cs → get_or (onward panel c cs) i l ≡ between (get_or (c ∷ cs) i x) (get_or cs i x)
onward_next panel c [] i x l h = absurd (omega arith)
onward_next panel c (d ∷ ds) zero x l h = refl
onward_next panel c (d ∷ ds) (suc i) x l h = onward_next panel d ds i x l (omega arith)

-- and the last to the panel
onward_last : (panel c : Cell) (cs : List Cell) (i : ℕ) (x : Cell) (l : Leg) → i ≡ length cs → get_or (onward panel c cs) i l ≡ between (get_or (c ∷ cs) i x) panel
onward_last panel c [] zero x l h = refl
onward_last panel c [] (suc i) x l h = absurd (omega arith)
onward_last panel c (d ∷ ds) zero x l h = absurd (omega arith)
onward_last panel c (d ∷ ds) (suc i) x l h = onward_last panel d ds i x l (omega arith)

onward_length : (panel c : Cell) (cs : List Cell) → length (onward panel c cs) ≡ length cs + 1
onward_length panel c [] = refl
onward_length panel c (d ∷ ds) = let a = onward_length panel d ds in omega arith

pub leg_next : (cells : List Cell) (i : ℕ) (x : Cell) (l : Leg) → i + 1 < length cells → get_or (legs cells) i l ≡ between (get_or cells i x) (get_or cells (i + 1) x)
leg_next [] i x l h = absurd (omega arith)
leg_next (panel ∷ cells) i x l h =
    onward_next panel panel cells i x l (omega arith) ∙ ap (λ k. between (get_or (panel ∷ cells) i x) (get_or (panel ∷ cells) k x)) (sym (add-one i))

pub leg_last : (cells : List Cell) (i : ℕ) (x : Cell) (l : Leg) → i + 1 ≡ length cells → get_or (legs cells) i l ≡ between (get_or cells i x) (get_or cells 0 x)
leg_last [] i x l h = absurd (omega arith)
leg_last (panel ∷ cells) i x l h = onward_last panel panel cells i x l (omega arith)

pub legs_length : (cells : List Cell) → length (legs cells) ≡ length cells
legs_length [] = refl
legs_length (panel ∷ cells) = let a = onward_length panel panel cells in omega arith

total_push : (ns : List Counts) (n : Counts) → total (ns ++ n ∷ []) ≡ plus (total ns) n
total_push [] n = λ i. counts (let e : n.straight + 0 ≡ 0 + n.straight = omega arith in e i) (let e : n.diagonal + 0 ≡ 0 + n.diagonal = omega arith in e i)
total_push (m ∷ ns) n =
    let straights : m.straight + ((total ns).straight + n.straight) ≡ m.straight + (total ns).straight + n.straight = omega arith in
    let diagonals : m.diagonal + ((total ns).diagonal + n.diagonal) ≡ m.diagonal + (total ns).diagonal + n.diagonal = omega arith in
    ap (plus m) (total_push ns n) ∙ (λ i. counts (straights i) (diagonals i))

-- a list that is as before from i on is its first i entries and the rest of what was before
pub front_kept : (i : ℕ) (now before : List Counts) → i ≤ length now → drop i now ≡ drop i before → now ≡ take i now ++ drop (length (take i now)) before
front_kept i now before h e =
    sym (take-append-drop i now) ∙ ap (λ ns. take i now ++ ns) (e ∙ ap (λ k. drop k before) (sym (length-take-le i now h)))

pub drop_one_more : (i : ℕ) (now before : List Counts) → drop i now ≡ drop i before → drop (i + 1) now ≡ drop (i + 1) before
drop_one_more i now before e = sym (drop-drop 1 i now) ∙ ap (drop 1) e ∙ drop-drop 1 i before

-- where no question about a loop is answered no, it has 2 to 64 cells, and the leg list has room for its legs
pub few_cells : (cells : List Cell) (room : ℕ) → first_no (loop_questions cells room) ≡ None → (length cells ≤ 64) × (length cells ≤ room)
few_cells cells room e =
    let a = yes_first (ask (leb 2 (length cells) && leb (length cells) 64) CellCount) (ask (leb (length cells) room) ShortLegs ∷ []) e in
    let b = yes_first (ask (leb (length cells) room) ShortLegs) [] a.1 in
    (leb-true (length cells) 64 (and_parts (leb 2 (length cells)) (leb (length cells) 64) a.0).1, leb-true (length cells) room b.0)

module _ (order : Counts → Counts → Comparison) (law : Lawful order) (p : Plan) (z : Sized p) where
  -- a leg that is answered has few steps
  pub few_steps : (s t : Cell) (w v : ℕ) (n : Counts) → LengthTold order legal p s t w v (Ok n) → steps n ≤ longest
  few_steps s t w v n told = by (first_no (length_questions p s t w v)) told
    where
      by : (o : Option Refusal) → CostTold order legal p s t o (Ok n) → steps n ≤ longest
      by (Some e) h = absurd (let y : ◌≡◌ {A = ℕ} 0 1 = cc in omega arith)
      by None h = (rivals order law legal legal_fair).short p z s t n h

-- work lists of the same lengths are told the same
pub told_as_long : (order : Counts → Counts → Comparison) (p : Plan) (s t : Cell) (w w' v v' : ℕ) (r : Result Counts Refusal) → w ≡ w' → v ≡ v' → LengthTold order legal p s t w v r → LengthTold order legal p s t w' v' r
told_as_long order p s t w w' v v' r d e h =
    subst (λ k. LengthTold order legal p s t w' k r) e (subst (λ k. LengthTold order legal p s t k v r) d h)

module _ (order : Counts → Counts → Comparison) (p : Plan) (cells : List Cell) (w v : ℕ) where
  -- before leg i, counted from 0, with these counts at the front of the leg list and this sum
  pub record Underway (i : ℕ) (front : List Counts) (sum : Counts) : Type 0 where
    pub summed : total front ≡ sum
    pub few : steps sum ≤ longest * i
    pub left : (written ms : List Counts) (r : Result Counts LoopRefusal) → Looped order legal p w v written (i + 1) (drop i (legs cells)) ms r → Looped order legal p w v written 1 (legs cells) (front ++ ms) r

  pub start : Underway 0 [] none
  start = record { summed = refl; few = omega arith; left = λ written ms r h. h }

  module _ (i : ℕ) (front : List Counts) (sum : Counts) (u : Underway i front sum) where
    module _ (s t : Cell) (h : i < length cells) (here : (l : Leg) → get_or (legs cells) i l ≡ between s t) where
      leg_first : drop i (legs cells) ≡ between s t ∷ drop (i + 1) (legs cells)
      leg_first =
          let inside : i < length (legs cells) = omega (arith, legs_length cells) in
          drop_more (legs cells) i (between s t) inside ∙ ap (λ l. l ∷ drop (i + 1) (legs cells)) (here (between s t))

      -- one leg more
      pub on : (n : Counts) → LengthTold order legal p s t w v (Ok n) → steps n ≤ longest → Underway (i + 1) (front ++ n ∷ []) (plus sum n)
      on n told short = record {
        summed = total_push front n ∙ ap (λ m. plus m n) u.summed;
        few = let f = u.few in omega arith;
        left = λ written ms r k.
            subst (λ ns. Looped order legal p w v written 1 (legs cells) ns r) (sym (append_assoc front (n ∷ []) ms))
            (u.left written (n ∷ ms) r (subst (λ ls. Looped order legal p w v written (i + 1) ls (n ∷ ms) r) (sym leg_first) (told, k)));
      }

      -- a refused leg ends the loop
      pub stop : (e : Refusal) → LengthTold order legal p s t w v (Err e) → Looped order legal p w v front 1 (legs cells) front (Err (loop.Leg (i + 1) e))
      stop e told =
          let r : Result Counts LoopRefusal = Err (loop.Leg (i + 1) e) in
          subst (λ ns. Looped order legal p w v front 1 (legs cells) ns r) (append-nil front)
          (u.left front [] r (subst (λ ls. Looped order legal p w v front (i + 1) ls [] r) (sym leg_first) (e, refl, told)))

    -- after the last leg the total is answered
    pub finish : length cells ≤ i → Looped order legal p w v front 1 (legs cells) front (Ok sum)
    finish h =
        let past : length (legs cells) ≤ i = omega (arith, legs_length cells) in
        let r : Result Counts LoopRefusal = Ok sum in
        subst (λ ns. Looped order legal p w v front 1 (legs cells) ns r) (append-nil front)
        (u.left front [] r (subst (λ ls. Looped order legal p w v front (i + 1) ls [] r) (sym (drop_all i (legs cells) past)) (ap Ok (sym u.summed))))

  -- what is told of the legs is told of the loop, once its questions have passed
  pub told_all : (room : ℕ) (ns : List Counts) (r : Result Counts LoopRefusal) → first_no (loop_questions cells room) ≡ None → Looped order legal p w v ns 1 (legs cells) ns r → LoopBy order legal p cells w v ns (first_no (loop_questions cells room)) r
  told_all room ns r e h = subst (λ o. LoopBy order legal p cells w v ns o r) (sym e) h
