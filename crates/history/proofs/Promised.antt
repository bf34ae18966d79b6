-- The three promises over whole runs follow from one: each answer is right in the plan of its moment.
use Rattle.std.proofs.Common.{◌≡◌, ℕ, ◌<◌, Bool, true, false, cond, ◌&&◌, eqb, ltb, List, [], ◌∷◌, length, get_or, take, sym, refl, ap, ◌∙◌, subst, arith}
use mathlib.Core.Path.{transport}
use Rattle.std.proofs.Math.Nat.{min-le_left}
use Rattle.std.proofs.lemmas.Bool.{both_ways, and_parts, eqb-true}
use Rattle.std.proofs.lemmas.List.{take-take, take-map, get_or-take, length-take}
use Rattle.floor.specs.declared.Cell.{Cell}
use Rattle.floor.specs.declared.Counts.{Counts}
use Rattle.floor.specs.Plans.{Plan, Sized, inside, closed, marked, legal}
use Rattle.floor.proofs.Legal.{legal_fair}
use Rattle.rate.specs.declared.Comparison.{Comparison}
use Rattle.rate.specs.Laws.{Lawful}
use Rattle.planner.specs.Loops.{after}
use Rattle.history.specs.Calls.{Asked, to_open, to_close, a_length, a_route, a_loop, Told, State, fresh, next, after_all, Right}
use Rattle.source.specs.Few.{Few}
use Rattle.history.specs.declared.calls.Call.{Call}
use Rattle.history.specs.Records.{asked, all_asked}
use Rattle.history.specs.Promise.{RunsKeepTheirPromises, SameSize, state_at, AnsweredInTurn, CheapestAtEveryMoment, MoreOpenCellsNeverCostMore, TheSameForAnyTwoSources}
use Rattle.history.proofs.Turns.{each_answer, as_many}
use Rattle.history.proofs.Alike.{right_alike}
use Rattle.history.proofs.Opening.{right_kept}

-- ---- sizes stay

-- a plan of these rows and columns, within the limits
record OfSize (rows cols : ℕ) (p : Plan) : Type 0 where
  same_rows : p.rows ≡ rows
  same_cols : p.cols ≡ cols
  sized : Sized p

marked_sized : (p : Plan) → Sized p → (c : Cell) (b : Bool) → inside p c ≡ true → Sized (marked p c b)
marked_sized p z c b i = record { few_rows = z.few_rows; few_cols = z.few_cols; no_rows = z.no_rows; no_cols = z.no_cols; bounded = by }
  where
    at : (r k : ℕ) (t : Bool) → (eqb r c.row && eqb k c.col) ≡ t → (ltb r p.rows && ltb k p.cols) ≡ false → cond t b (p.free r k) ≡ false
    at r k true e o =
        let h = and_parts (eqb r c.row) (eqb k c.col) e in
        let j : (ltb r p.rows && ltb k p.cols) ≡ true = (λ n. ltb (eqb-true r c.row h.0 n) p.rows && ltb (eqb-true k c.col h.1 n) p.cols) ∙ i in
        absurd (both_ways (ltb r p.rows && ltb k p.cols) o j)
    at r k false e o = z.bounded r k o

    by : (r k : ℕ) → (ltb r p.rows && ltb k p.cols) ≡ false → cond (eqb r c.row && eqb k c.col) b (p.free r k) ≡ false
    by r k o = at r k (eqb r c.row && eqb k c.col) refl o

after_size : (rows cols : ℕ) (p : Plan) (c : Cell) (b : Bool) → OfSize rows cols p → OfSize rows cols (after p c b)
after_size rows cols p c b z = by (inside p c) refl
  where
    by : (t : Bool) → inside p c ≡ t → OfSize rows cols (cond t (marked p c b) p)
    by true i = record { same_rows = z.same_rows; same_cols = z.same_cols; sized = marked_sized p z.sized c b i }
    by false i = z

next_size : (rows cols : ℕ) (s : State) (a : Asked) → OfSize rows cols s.plan → OfSize rows cols (next s a).plan
next_size rows cols s (to_open c) z = after_size rows cols s.plan c true z
next_size rows cols s (to_close c) z = after_size rows cols s.plan c false z
next_size rows cols s (a_length x y w v) z = z
next_size rows cols s (a_route x y w v c) z = z
next_size rows cols s (a_loop cs w v l) z = z

size_stays : (rows cols : ℕ) (s : State) (xs : List Asked) → OfSize rows cols s.plan → OfSize rows cols (after_all s xs).plan
size_stays rows cols s [] z = z
size_stays rows cols s (a ∷ xs) z = size_stays rows cols (next s a) xs (next_size rows cols s a z)

closed_size : (rows cols : ℕ) → Few rows cols → OfSize rows cols (closed rows cols)
closed_size rows cols few =
    record { same_rows = refl; same_cols = refl; sized = record { few_rows = few.0; few_cols = few.1; no_rows = few.2; no_cols = few.3; bounded = λ r c o. refl } }

-- ---- the promises

module _ (order : Counts → Counts → Comparison) (law : Lawful order) (rows cols : ℕ) (few : Few rows cols) (calls : List Asked) where
  size_at : (i : ℕ) → OfSize rows cols (state_at rows cols calls i).plan
  size_at i = size_stays rows cols (fresh rows cols) (take i calls) (closed_size rows cols few)

  pub cheapest : (answers : List Told) → AnsweredInTurn order (fresh rows cols) calls answers → CheapestAtEveryMoment order rows cols calls answers
  cheapest answers h = record { all = as_many order (fresh rows cols) calls answers h; each = each_answer order (fresh rows cols) calls answers h }

  pub more_open : (answers : List Told) → AnsweredInTurn order (fresh rows cols) calls answers → MoreOpenCellsNeverCostMore order rows cols calls answers
  more_open answers h i j a x li lj e grow =
      let s = size_at i in
      let t = size_at j in
      let right = each_answer order (fresh rows cols) calls answers h in
      right_kept order law legal legal_fair (state_at rows cols calls i).plan (state_at rows cols calls j).plan s.sized t.sized (s.same_rows ∙ sym t.same_rows) (s.same_cols ∙ sym t.same_cols) grow
      (get_or calls i a) (get_or answers i x) (get_or answers j x) (right i a x li)
      (subst (λ k. Right order legal (state_at rows cols calls j) k (get_or answers j x)) (sym e) (right j a x lj))

-- the same i-th call after the same calls, where both lists have so many
pub record AsFar (xs ys : List Asked) (i : ℕ) : Type 0 where
  pub before : take i xs ≡ take i ys
  pub here : (a : Asked) → get_or xs i a ≡ get_or ys i a

module _ (order : Counts → Counts → Comparison) (law : Lawful order) (rows cols : ℕ) (few : Few rows cols) where
  pub same_two : (calls others : List Asked) (first second : List Told) → ((i : ℕ) → i < length calls → i < length others → AsFar calls others i) →
      CheapestAtEveryMoment order rows cols calls first → CheapestAtEveryMoment order rows cols others second → TheSameForAnyTwoSources order first second
  same_two calls others first second far h k i x l m =
      let some : Asked = to_open (record { row = 0; col = 0 }) in
      let li : i < length calls = omega (arith, h.all) in
      let lj : i < length others = omega (arith, k.all) in
      let f = far i li lj in
      right_alike order law legal legal_fair (state_at rows cols calls i).plan (size_at order law rows cols few calls i).sized (get_or calls i some) (get_or first i x) (get_or second i x) (h.each i some x li)
      (subst (λ s. Right order legal s (get_or calls i some) (get_or second i x)) (sym (ap (after_all (fresh rows cols)) f.before))
      (subst (λ a. Right order legal (state_at rows cols others i) a (get_or second i x)) (sym (f.here some)) (k.each i some x lj)))

pub promises : RunsKeepTheirPromises
promises order law rows cols few calls answers others h k =
    let one = cheapest order law rows cols few calls answers h in (
      one,
      more_open order law rows cols few calls answers h,
      same_two order law rows cols few calls calls answers others (λ i l m. record { before = refl; here = λ a. refl }) one (cheapest order law rows cols few calls others k),
    )

-- the first calls of one list, as many as may be, agree as far as both go
as_far : (xs : List Asked) (n m i : ℕ) → i < length (take n xs) → i < length (take m xs) → AsFar (take n xs) (take m xs) i
as_far xs n m i l k =
    let below = within n l in
    let under = within m k in
    record { before = take-take i n xs (omega arith) ∙ sym (take-take i m xs (omega arith)); here = λ a. get_or-take n xs i a below ∙ sym (get_or-take m xs i a under) }
  where
    within : (j : ℕ) → i < length (take j xs) → i < j
    within j h = let e = length-take j xs in let f = min-le_left j (length xs) in omega arith

-- two runs that are put the calls of one list, as many as may be, answer alike
pub alike_runs : (order : Counts → Counts → Comparison) → Lawful order → (p q : Plan) → Few p.rows p.cols → SameSize p q → (calls : List Call) (n m : ℕ) (first second : List Told) →
    CheapestAtEveryMoment order p.rows p.cols (all_asked (take n calls)) first → CheapestAtEveryMoment order q.rows q.cols (all_asked (take m calls)) second → TheSameForAnyTwoSources order first second
alike_runs order law p q few size calls n m first second h k =
    let ask : Call → Asked = λ z. asked z.asks z.rooms in
    same_two order law p.rows p.cols few (take n (all_asked calls)) (take m (all_asked calls)) first second (as_far (all_asked calls) n m)
    (subst (λ zs. CheapestAtEveryMoment order p.rows p.cols zs first) (sym (take-map ask n calls)) h)
    (transport (λ i. CheapestAtEveryMoment order (sym size.0 i) (sym size.1 i) (sym (take-map ask m calls) i) second) k)
