-- A run on its way: what holds after some of the calls holds after one more.
use Rattle.std.proofs.Common.{◌≡◌, ℕ, ◌+◌, ◌-◌, ◌<◌, ◌≤◌, true, List, [], ◌∷◌, ◌++◌, length, get_or, take, drop, set, sym, refl, ap, ◌∙◌, subst, arith}
use mathlib.Core.Path.{transport}
use borrow.Rule.Slice.PartMut.{put_mid}
use Rattle.std.specs.List.{sum_by}
use Rattle.std.proofs.lemmas.List.{take-append-drop, take-take, take_at, drop_at, drop-take, drop-drop, take-append-le, take_more, take_more_set, drop-set-lt, drop-append-le, length-append, length-take-le, length-drop, length-set, map-append}
use Rattle.std.proofs.lemmas.List.Sums.{sum_by-cons, sum_by_push, sum_by-take-le}
use Rattle.std.proofs.ByRecursion.{All-get_or}
use Rattle.floor.specs.declared.Cell.{Cell}
use Rattle.floor.specs.declared.Counts.{Counts}
use Rattle.floor.specs.Plans.{Plan, legal}
use Rattle.rate.specs.declared.Comparison.{Comparison}
use Rattle.search.specs.declared.entry.Entry.{Entry}
use Rattle.search.specs.declared.Waiter.{Waiter}
use Rattle.lengths.specs.Answers.{drawn_costs}
use Rattle.history.specs.declared.calls.Asks.{Asks}
use Rattle.history.specs.declared.calls.Call.{Call}
use Rattle.history.specs.declared.calls.Answer.{Answer}
use Rattle.history.specs.declared.calls.Answer.TheVariants as answer
use Rattle.history.specs.Calls.{drawn, toured, State, next, after_all, Right}
use Rattle.history.specs.Records.{Fit, asked, all_asked, corners_written, legs_written, is_refused, told, all_told}
use Rattle.history.specs.Lists.{lists, rooms, Worked, Put}
use Rattle.history.specs.Promise.{AnsweredInTurn}
use Rattle.history.specs.declared.calls.Tape.{Tape}
use Rattle.history.specs.Runs.{Suffices, Moment, fronts, Left, InTurn, Ran}
use Rattle.history.proofs.Turns.{after_more, answered_more}

-- ---- parts of a list, written and put back

module _ {X : Type 0} (a k : ℕ) (xs ys : List X) (long : length ys ≡ k) (fits : a + k ≤ length xs) where
  before : length (take a xs) ≡ a
  before = length-take-le a xs (omega arith)

  pub part_front : drop a (put_mid a k xs ys) ≡ ys ++ drop k (drop a xs)
  part_front = drop_at (take a xs) (ys ++ drop k (drop a xs)) a before

  pub part_before : take a (put_mid a k xs ys) ≡ take a xs
  part_before = take_at (take a xs) (ys ++ drop k (drop a xs)) a before

  pub part_long : length (put_mid a k xs ys) ≡ length xs
  part_long =
      length-append (take a xs) (ys ++ drop k (drop a xs)) ∙ ap (λ n. length (take a xs) + n) (length-append ys (drop k (drop a xs)))
      ∙ (let b = before in let d = length-drop k (drop a xs) in let e = length-drop a xs in let y = long in omega arith)

  -- a part that is as it was past its first m leaves the list as it was past them
  pub part_past : (m : ℕ) → m ≤ k → drop m ys ≡ drop m (take k (drop a xs)) → drop (a + m) (put_mid a k xs ys) ≡ drop (a + m) xs
  part_past m few same =
      let rest = drop a xs in
      let room : length (take k rest) ≡ k = length-take-le k rest (let e = length-drop a xs in omega arith) in
      sym (drop-drop m a (put_mid a k xs ys)) ∙ ap (drop m) part_front ∙ drop-append-le m ys (drop k rest) (omega (arith, long)) ∙ ap (λ zs. zs ++ drop k rest) same
      ∙ sym (drop-append-le m (take k rest) (drop k rest) (omega (arith, room))) ∙ ap (drop m) (take-append-drop k rest) ∙ drop-drop m a xs

-- the same of a front
module _ {X : Type 0} (n : ℕ) (zs ys : List X) (same : length ys ≡ length (take n zs)) (fit : n ≤ length zs) where
  front_long : length ys ≡ n
  front_long = same ∙ length-take-le n zs fit

  front_back : take n (ys ++ drop n zs) ≡ ys
  front_back = take_at ys (drop n zs) n front_long

  rest_back : drop n (ys ++ drop n zs) ≡ drop n zs
  rest_back = drop_at ys (drop n zs) n front_long

  long_back : length (ys ++ drop n zs) ≡ length zs
  long_back = length-append ys (drop n zs) ∙ (let a = front_long in let d = length-drop n zs in omega arith)

-- lists that are one past a number of entries are one past more
more_past : {X : Type 0} (xs ys : List X) (a m : ℕ) → drop a xs ≡ drop a ys → drop (a + m) xs ≡ drop (a + m) ys
more_past xs ys a m e = sym (drop-drop m a xs) ∙ ap (drop m) e ∙ drop-drop m a ys

-- ---- what answers tell

-- an answer tells only of what it says was written
told_by : (x : Answer) (cs ds : List Cell) (ns ms : List Counts) → take (corners_written x) cs ≡ take (corners_written x) ds → take (legs_written x) ns ≡ take (legs_written x) ms → told x cs ns ≡ told x ds ms
told_by (answer.Changed r) cs ds ns ms e f = refl
told_by (answer.Length r) cs ds ns ms e f = refl
told_by (answer.Route r) cs ds ns ms e f = ap (drawn (drawn_costs r)) e
told_by (answer.Loop r n) cs ds ns ms e f = ap (toured r) f

-- the same at the front of longer lists
told_front : (x : Answer) (cs ds : List Cell) (ns ms : List Counts) → corners_written x ≤ length cs → legs_written x ≤ length ns → told x (cs ++ ds) (ns ++ ms) ≡ told x cs ns
told_front x cs ds ns ms e f = told_by x (cs ++ ds) cs (ns ++ ms) ns (take-append-le (corners_written x) cs ds e) (take-append-le (legs_written x) ns ms f)

module _ {X : Type 0} where
  -- of two lists with one front, shorter fronts are one, and what follows them
  front_within : (m n : ℕ) (xs ys : List X) → take (m + n) xs ≡ take (m + n) ys → take m xs ≡ take m ys
  front_within m n xs ys e = sym (take-take m (m + n) xs (omega arith)) ∙ ap (take m) e ∙ take-take m (m + n) ys (omega arith)

  front_past : (m n : ℕ) (xs ys : List X) → take (m + n) xs ≡ take (m + n) ys → take n (drop m xs) ≡ take n (drop m ys)
  front_past m n xs ys e = sym (drop-take m n xs) ∙ ap (drop m) e ∙ drop-take m n ys

-- answers tell only of what they say was written
told_same : (xs : List Answer) (cs ds : List Cell) (ns ms : List Counts) → take (sum_by corners_written xs) cs ≡ take (sum_by corners_written xs) ds → take (sum_by legs_written xs) ns ≡ take (sum_by legs_written xs) ms →
    all_told xs cs ns ≡ all_told xs ds ms
told_same [] cs ds ns ms e f = refl
told_same (x ∷ xs) cs ds ns ms e f =
    let c = subst (λ k. take k cs ≡ take k ds) (sum_by-cons corners_written x xs) e in
    let l = subst (λ k. take k ns ≡ take k ms) (sum_by-cons legs_written x xs) f in
    let one = told_by x cs ds ns ms (front_within (corners_written x) (sum_by corners_written xs) cs ds c) (front_within (legs_written x) (sum_by legs_written xs) ns ms l) in
    let more =
    told_same xs (drop (corners_written x) cs) (drop (corners_written x) ds) (drop (legs_written x) ns) (drop (legs_written x) ms)
    (front_past (corners_written x) (sum_by corners_written xs) cs ds c) (front_past (legs_written x) (sum_by legs_written xs) ns ms l) in
    λ i. one i ∷ more i

-- one answer more tells of what follows all that was written before
told_more : (xs : List Answer) (x : Answer) (cs : List Cell) (ns : List Counts) →
    all_told (xs ++ x ∷ []) cs ns ≡ all_told xs cs ns ++ told x (drop (sum_by corners_written xs) cs) (drop (sum_by legs_written xs) ns) ∷ []
told_more [] x cs ns = refl
told_more (y ∷ ys) x cs ns =
    let c : drop (sum_by corners_written ys) (drop (corners_written y) cs) ≡ drop (sum_by corners_written (y ∷ ys)) cs =
    drop-drop (sum_by corners_written ys) (corners_written y) cs ∙ ap (λ k. drop k cs) (sym (sum_by-cons corners_written y ys)) in
    let l : drop (sum_by legs_written ys) (drop (legs_written y) ns) ≡ drop (sum_by legs_written (y ∷ ys)) ns =
    drop-drop (sum_by legs_written ys) (legs_written y) ns ∙ ap (λ k. drop k ns) (sym (sum_by-cons legs_written y ys)) in
    ap (λ us. told y cs ns ∷ us) (told_more ys x (drop (corners_written y) cs) (drop (legs_written y) ns) ∙ (λ i. all_told ys (drop (corners_written y) cs) (drop (legs_written y) ns) ++ told x (c i) (l i) ∷ []))

-- ---- a list in which what a call writes follows what was written

-- Of such a list, after these calls and answers: so much is written, which fits and is no more than was asked for; past it the list is as it was first.
pub record Strip {X : Type 0} (asks : Call → ℕ) (wrote : Answer → ℕ) (first : List X) (ks : List Call) (xs : List Answer) (zs : List X) (used : ℕ) : Type 0 where
  pub is : used ≡ sum_by wrote xs
  pub few : used ≤ length zs
  pub within : used ≤ sum_by asks ks
  pub past : drop used zs ≡ drop used first
  pub long : length zs ≡ length first

unwritten : {X : Type 0} (asks : Call → ℕ) (wrote : Answer → ℕ) (first : List X) → Strip asks wrote first [] [] first 0
unwritten asks wrote first = record { is = refl; few = omega arith; within = omega arith; past = refl; long = refl }

-- one call more was lent a part of the list, and left it so
module _ {X : Type 0} (asks : Call → ℕ) (wrote : Answer → ℕ) (first : List X) (ks : List Call) (xs : List Answer) (zs : List X) (used : ℕ) (s : Strip asks wrote first ks xs zs used)
    (k : Call) (fit : asks k ≤ length zs - used) (x : Answer) (ys : List X) (same : length ys ≡ length (take (asks k) (drop used zs)))
    (few : wrote x ≤ length (take (asks k) (drop used zs))) (past : drop (wrote x) ys ≡ drop (wrote x) (take (asks k) (drop used zs))) where
  lent_part : length (take (asks k) (drop used zs)) ≡ asks k
  lent_part = length-take-le (asks k) (drop used zs) (let d = length-drop used zs in omega arith)

  part : length ys ≡ asks k
  part = same ∙ lent_part

  room : used + asks k ≤ length zs
  room = let b = s.few in omega arith

  wrote_few : wrote x ≤ asks k
  wrote_few = subst (λ n. wrote x ≤ n) lent_part few

  strip_front : drop used (put_mid used (asks k) zs ys) ≡ ys ++ drop (asks k) (drop used zs)
  strip_front = part_front used (asks k) zs ys part room

  strip_before : take (sum_by wrote xs) (put_mid used (asks k) zs ys) ≡ take (sum_by wrote xs) zs
  strip_before = subst (λ n. take n (put_mid used (asks k) zs ys) ≡ take n zs) s.is (part_before used (asks k) zs ys part room)

  strip_more : Strip asks wrote first (ks ++ k ∷ []) (xs ++ x ∷ []) (put_mid used (asks k) zs ys) (used + wrote x)
  strip_more = record {
    is = ap (λ n. n + wrote x) s.is ∙ sym (sum_by_push wrote xs x);
    few = let l = part_long used (asks k) zs ys part room in let f = wrote_few in let r = room in omega arith;
    within = let w = s.within in let f = wrote_few in let l = sum_by_push asks ks k in omega arith;
    past = part_past used (asks k) zs ys part room (wrote x) wrote_few past ∙ more_past zs first used (wrote x) s.past;
    long = part_long used (asks k) zs ys part room ∙ s.long;
  }

-- ---- the run

-- work lists alone
worked_of : {order : Counts → Counts → Comparison} {p : Plan} {k : Asks} {x : Answer} {es es' : List Entry} {vs vs' : List Waiter} {cs cs' ds ds' : List Cell} {ns ns' ms ms' : List Counts} →
    Worked order p k x (lists es vs cs ns) (lists es' vs' cs' ns') → Worked order p k x (lists es vs ds ms) (lists es' vs' ds' ms')
worked_of w = record { searched = w.searched; entries = w.entries; waiting = w.waiting; same = w.same }

-- lists that are cut as a call asks are as long as it asks
cut_rooms : (k : Call) (es : List Entry) (vs : List Waiter) (cs : List Cell) (ns : List Counts) (bends measured : ℕ) →
    Fit k.rooms (record { entries = length es; waiting = length vs; corners = length cs - bends; legs = length ns - measured }) →
    rooms (take k.rooms.entries es) (take k.rooms.waiting vs) (take k.rooms.corners (drop bends cs)) (take k.rooms.legs (drop measured ns)) ≡ k.rooms
cut_rooms k es vs cs ns bends measured fit =
    let corners = length-take-le k.rooms.corners (drop bends cs) (let d = length-drop bends cs in let f = fit.corners in omega arith) in
    let legs = length-take-le k.rooms.legs (drop measured ns) (let d = length-drop measured ns in let f = fit.legs in omega arith) in
    λ j. record { entries = length-take-le k.rooms.entries es fit.entries j; waiting = length-take-le k.rooms.waiting vs fit.waiting j; corners = corners j; legs = legs j }

module _ {S : Type 0} (meaning : S → Plan) (lent intact : S → S → Type 0) (order : Counts → Counts → Comparison) where
  -- one call more, and the source means what it leaves
  in_turn_more : {s : State} {ks : List Call} {xs : List Answer} {m n : Moment S} → InTurn meaning lent intact order s ks xs m n → (k : Call) (x : Answer) (after : Moment S) →
      Left meaning lent intact order k x n after → meaning after.source ≡ (next (after_all s (all_asked ks)) (asked k.asks k.rooms)).plan →
      InTurn meaning lent intact order s (ks ++ k ∷ []) (xs ++ x ∷ []) m after
  in_turn_more (InTurn.ended e) k x after p f = InTurn.onward after e p (InTurn.ended f)
  in_turn_more (InTurn.onward mid e q r) k x after p f = InTurn.onward mid e q (in_turn_more r k x after p f)

  module _ (s : State) (calls : List Call) (first : Moment S) (cs0 : List Cell) (ns0 : List Counts) (xs0 : List Answer) where
    -- what calls ask of the two lists that follow what was written
    abbrev pub Corners : List Call → List Answer → List Cell → ℕ → Type 0
    Corners = Strip (λ (k : Call). k.rooms.corners) corners_written cs0

    abbrev pub Legs : List Call → List Answer → List Counts → ℕ → Type 0
    Legs = Strip (λ (k : Call). k.rooms.legs) legs_written ns0

    -- after i calls: what the lists hold, and how much of them is written
    pub record Underway (i : ℕ) (m : Moment S) (cs : List Cell) (ns : List Counts) (xs : List Answer) (bends measured : ℕ) : Type 0 where
      pub corners : Corners (take i calls) (take i xs) cs bends
      pub legs : Legs (take i calls) (take i xs) ns measured
      pub few : i ≤ length xs
      pub state : ◌≡◌ {A = State} (record { plan = meaning m.source }) (after_all s (all_asked (take i calls)))
      pub answered : AnsweredInTurn order s (all_asked (take i calls)) (all_told (take i xs) cs ns)
      pub in_turn : InTurn meaning lent intact order s (take i calls) (take i xs) first m
      pub past : drop i xs ≡ drop i xs0
      pub long_entries : length m.entries ≡ length first.entries
      pub long_waiting : length m.waiting ≡ length first.waiting
      pub long_answers : length xs ≡ length xs0

    -- nothing is put yet
    pub start : ◌≡◌ {A = State} (record { plan = meaning first.source }) s → Underway 0 first cs0 ns0 xs0 0 0
    start is = record {
      corners = unwritten _ _ cs0;
      legs = unwritten _ _ ns0;
      few = omega arith;
      state = is;
      answered = tt;
      in_turn = InTurn.ended (ap (λ (z : State). z.plan) is);
      past = refl;
      long_entries = refl;
      long_waiting = refl;
      long_answers = refl;
    }

    module _ (i : ℕ) (m : Moment S) (cs : List Cell) (ns : List Counts) (xs : List Answer) (bends measured : ℕ) (u : Underway i m cs ns xs bends measured) (k : Call) (here : k ≡ get_or calls i k) (inside : i < length calls)
        (fit : Fit k.rooms (record { entries = length m.entries; waiting = length m.waiting; corners = length cs - bends; legs = length ns - measured })) (room : i < length xs)
        (x : Answer) (after : S) (es : List Entry) (vs : List Waiter) (ds : List Cell) (ms : List Counts)
        (put : Put order (meaning m.source) k.asks x (lists (take k.rooms.entries m.entries) (take k.rooms.waiting m.waiting) (take k.rooms.corners (drop bends cs)) (take k.rooms.legs (drop measured ns))) (lists es vs ds ms))
        (plan : meaning after ≡ (next (record { plan = meaning m.source }) (asked k.asks k.rooms)).plan) (kept : lent m.source after) (refused : is_refused x ≡ true → intact m.source after) where
      calls_now : take (i + 1) calls ≡ take i calls ++ k ∷ []
      calls_now = take_more calls i k inside ∙ ap (λ z. take i calls ++ z ∷ []) (sym here)

      asks_now : all_asked (take (i + 1) calls) ≡ all_asked (take i calls) ++ asked k.asks k.rooms ∷ []
      asks_now = ap all_asked calls_now ∙ map-append (λ (z : Call). asked z.asks z.rooms) (take i calls) (k ∷ [])

      said_now : take (i + 1) (set xs i x) ≡ take i xs ++ x ∷ []
      said_now = take_more_set xs i x room

      abbrev pub cs' : List Cell
      cs' = put_mid bends k.rooms.corners cs ds

      abbrev pub ns' : List Counts
      ns' = put_mid measured k.rooms.legs ns ms

      abbrev pub after_moment : Moment S
      after_moment = record { source = after; entries = es ++ drop k.rooms.entries m.entries; waiting = vs ++ drop k.rooms.waiting m.waiting }

      same_corners : length ds ≡ length (take k.rooms.corners (drop bends cs))
      same_corners = ap (λ l. l.corners) put.as_long

      same_legs : length ms ≡ length (take k.rooms.legs (drop measured ns))
      same_legs = ap (λ l. l.legs) put.as_long

      -- what is told of the call on the tape is what its part of the tape tells
      told_now : told x (drop bends cs') (drop measured ns') ≡ told x ds ms
      told_now =
          (λ j. told x (strip_front _ _ _ _ _ cs bends u.corners k fit.corners x ds same_corners put.few_corners put.past_corners j)
          (strip_front _ _ _ _ _ ns measured u.legs k fit.legs x ms same_legs put.few_legs put.past_legs j))
          ∙ told_front x ds (drop k.rooms.corners (drop bends cs)) ms (drop k.rooms.legs (drop measured ns)) (subst (λ n. corners_written x ≤ n) (sym same_corners) put.few_corners)
          (subst (λ n. legs_written x ≤ n) (sym same_legs) put.few_legs)

      -- and the answers before tell what they told
      told_before : all_told (take i xs) cs' ns' ≡ all_told (take i xs) cs ns
      told_before = told_same (take i xs) cs' cs ns' ns (strip_before _ _ _ _ _ cs bends u.corners k fit.corners x ds same_corners put.few_corners put.past_corners)
          (strip_before _ _ _ _ _ ns measured u.legs k fit.legs x ms same_legs put.few_legs put.past_legs)

      told_all : all_told (take (i + 1) (set xs i x)) cs' ns' ≡ all_told (take i xs) cs ns ++ told x ds ms ∷ []
      told_all =
          ap (λ zs. all_told zs cs' ns') said_now ∙ told_more (take i xs) x cs' ns'
          ∙ (λ j. told_before j ++ told x (drop (sym u.corners.is j) cs') (drop (sym u.legs.is j) ns') ∷ []) ∙ ap (λ t. all_told (take i xs) cs ns ++ t ∷ []) told_now

      right_now : Right order legal (after_all s (all_asked (take i calls))) (asked k.asks k.rooms) (told x ds ms)
      right_now = subst (λ st. Right order legal st (asked k.asks k.rooms) (told x ds ms)) u.state (subst (λ l. Right order legal (record { plan = meaning m.source }) (asked k.asks l) (told x ds ms)) (cut_rooms k m.entries m.waiting cs ns bends measured fit) put.right)

      plan_now : meaning after ≡ (next (after_all s (all_asked (take i calls))) (asked k.asks k.rooms)).plan
      plan_now = plan ∙ ap (λ (st : State). (next st (asked k.asks k.rooms)).plan) u.state

      state_now : ◌≡◌ {A = State} (record { plan = meaning after }) (after_all s (all_asked (take (i + 1) calls)))
      state_now = ap (λ p. record { plan = p }) plan_now ∙ sym (ap (after_all s) asks_now ∙ after_more s (all_asked (take i calls)) (asked k.asks k.rooms ∷ []))

      same_entries : length es ≡ length (take k.rooms.entries m.entries)
      same_entries = ap (λ l. l.entries) put.as_long

      same_waiting : length vs ≡ length (take k.rooms.waiting m.waiting)
      same_waiting = ap (λ l. l.waiting) put.as_long

      left_now : Left meaning lent intact order k x m after_moment
      left_now = record {
        front = transport (λ j. Worked order (meaning m.source) k.asks x (fronts k m)
            (lists (sym (front_back k.rooms.entries m.entries es same_entries fit.entries) j) (sym (front_back k.rooms.waiting m.waiting vs same_waiting fit.waiting) j) [] [])) (worked_of put.work);
        entries = rest_back k.rooms.entries m.entries es same_entries fit.entries;
        waiting = rest_back k.rooms.waiting m.waiting vs same_waiting fit.waiting;
        memory = kept;
        refused = refused;
      }

      pub step : Underway (i + 1) after_moment cs' ns' (set xs i x) (bends + corners_written x) (measured + legs_written x)
      step = record {
        corners = transport (λ j. Corners (sym calls_now j) (sym said_now j) cs' (bends + corners_written x))
            (strip_more _ _ _ _ _ cs bends u.corners k fit.corners x ds same_corners put.few_corners put.past_corners);
        legs = transport (λ j. Legs (sym calls_now j) (sym said_now j) ns' (measured + legs_written x)) (strip_more _ _ _ _ _ ns measured u.legs k fit.legs x ms same_legs put.few_legs put.past_legs);
        few = let l = length-set xs i x in omega arith;
        state = state_now;
        answered = subst (λ zs. AnsweredInTurn order s zs (all_told (take (i + 1) (set xs i x)) cs' ns')) (sym asks_now)
            (subst (AnsweredInTurn order s (all_asked (take i calls) ++ asked k.asks k.rooms ∷ [])) (sym told_all)
            (answered_more order s (all_asked (take i calls)) (all_told (take i xs) cs ns) (asked k.asks k.rooms) (told x ds ms) u.answered right_now));
        in_turn = transport (λ j. InTurn meaning lent intact order s (sym calls_now j) (sym said_now j) first after_moment) (in_turn_more u.in_turn k x after_moment left_now plan_now);
        past = drop-set-lt (i + 1) xs i x (omega arith) ∙ more_past xs xs0 i 1 u.past;
        long_entries = long_back k.rooms.entries m.entries es same_entries fit.entries ∙ u.long_entries;
        long_waiting = long_back k.rooms.waiting m.waiting vs same_waiting fit.waiting ∙ u.long_waiting;
        long_answers = length-set xs i x ∙ u.long_answers;
      }

    -- the same, with the numbers as the code has them
    pub one_more : (i : ℕ) (m : Moment S) (cs : List Cell) (ns : List Counts) (xs : List Answer) (bends measured : ℕ) → Underway i m cs ns xs bends measured →
        (k : Call) → k ≡ get_or calls i k → i < length calls →
        Fit k.rooms (record { entries = length m.entries; waiting = length m.waiting; corners = length cs - bends; legs = length ns - measured }) → i < length xs →
        (x : Answer) (after : S) (es : List Entry) (vs : List Waiter) (ds : List Cell) (ms : List Counts) (c l b d : ℕ) → c ≡ k.rooms.corners → l ≡ k.rooms.legs → b ≡ corners_written x → d ≡ legs_written x →
        Put order (meaning m.source) k.asks x (lists (take k.rooms.entries m.entries) (take k.rooms.waiting m.waiting) (take c (drop bends cs)) (take l (drop measured ns))) (lists es vs ds ms) →
        meaning after ≡
        (next (record { plan = meaning m.source }) (asked k.asks (rooms (take k.rooms.entries m.entries) (take k.rooms.waiting m.waiting) (take c (drop bends cs)) (take l (drop measured ns))))).plan →
        lent m.source after → (is_refused x ≡ true → intact m.source after) →
        Underway (i + 1) (record { source = after; entries = es ++ drop k.rooms.entries m.entries; waiting = vs ++ drop k.rooms.waiting m.waiting })
        (put_mid bends c cs ds) (put_mid measured l ns ms) (set xs i x) (bends + b) (measured + d)
    one_more i m cs ns xs bends measured u k here inside fit room x after es vs ds ms c l b d ec el eb ed put plan kept refused =
        let put' = subst (λ z. Put order (meaning m.source) k.asks x (lists (take k.rooms.entries m.entries) (take k.rooms.waiting m.waiting) (take k.rooms.corners (drop bends cs)) (take z (drop measured ns))) (lists es vs ds ms)) el
        (subst (λ z. Put order (meaning m.source) k.asks x (lists (take k.rooms.entries m.entries) (take k.rooms.waiting m.waiting) (take z (drop bends cs)) (take l (drop measured ns))) (lists es vs ds ms)) ec put) in
        let asks = ap (λ z. rooms (take k.rooms.entries m.entries) (take k.rooms.waiting m.waiting) (take z (drop bends cs)) (take l (drop measured ns))) ec
        ∙ ap (λ z. rooms (take k.rooms.entries m.entries) (take k.rooms.waiting m.waiting) (take k.rooms.corners (drop bends cs)) (take z (drop measured ns))) el
        ∙ cut_rooms k m.entries m.waiting cs ns bends measured fit in
        let plan' = plan ∙ ap (λ q. (next (record { plan = meaning m.source }) (asked k.asks q)).plan) asks in
        let done = step i m cs ns xs bends measured u k here inside fit room x after es vs ds ms put' plan' kept refused in
        transport (λ j. Underway (i + 1) (record { source = after; entries = es ++ drop k.rooms.entries m.entries; waiting = vs ++ drop k.rooms.waiting m.waiting })
        (put_mid bends (sym ec j) cs ds) (put_mid measured (sym el j) ns ms) (set xs i x) (bends + sym eb j) (measured + sym ed j)) done

    -- where the lists have no room for the next call, they do not suffice for all
    pub no_room : (i : ℕ) (m : Moment S) (cs : List Cell) (ns : List Counts) (xs : List Answer) (bends measured : ℕ) → Underway i m cs ns xs bends measured →
        (k : Call) → k ≡ get_or calls i k → i < length calls →
        (Fit k.rooms (record { entries = length m.entries; waiting = length m.waiting; corners = length cs - bends; legs = length ns - measured }) × (0 < length xs - i) → ⊥) →
        (old : Tape) → old.entries.now ≡ first.entries → old.waiting.now ≡ first.waiting → old.corners.now ≡ cs0 → old.legs.now ≡ ns0 → old.answers.now ≡ xs0 → Suffices calls old → ⊥
    no_room i m cs ns xs bends measured u k here inside none old oe ov oc ol oa enough =
        let more : (f : Call → ℕ) → sum_by f (take i calls) + f k ≤ sum_by f calls =
        λ f. subst (λ n. n ≤ sum_by f calls) (ap (sum_by f) (take_more calls i k inside ∙ ap (λ z. take i calls ++ z ∷ []) (sym here)) ∙ sum_by_push f (take i calls) k) (sum_by-take-le f calls (i + 1)) in
        let work = subst (λ (z : Call). (z.rooms.entries ≤ length old.entries.now) × (z.rooms.waiting ≤ length old.waiting.now)) (sym here) (All-get_or _ calls i k inside enough.work) in
        let corners = more (λ (z : Call). z.rooms.corners) in
        let legs = more (λ (z : Call). z.rooms.legs) in
        let le = ap length oe in
        let lv = ap length ov in
        let lc = ap length oc in
        let ll = ap length ol in
        let la = ap length oa in
        none (
          record {
            entries = let a = u.long_entries in let b = work.0 in omega arith;
            waiting = let a = u.long_waiting in let b = work.1 in omega arith;
            corners = let a = u.corners.long in let b = u.corners.within in let e = enough.corners in omega arith;
            legs = let a = u.legs.long in let b = u.legs.within in let e = enough.legs in omega arith;
          },
          let a = u.long_answers in let e = enough.answers in omega arith,
        )

  -- the run so far, as its contract tells it
  pub finish : (s : State) (calls : List Call) (source source' : S) (old new : Tape) (i bends measured : ℕ) →
      Underway s calls (record { source = source; entries = old.entries.now; waiting = old.waiting.now }) old.corners.now old.legs.now old.answers.now
      i (record { source = source'; entries = new.entries.now; waiting = new.waiting.now }) new.corners.now new.legs.now new.answers.now bends measured →
      i ≤ length calls → (Suffices calls old → i ≡ length calls) → Ran meaning lent intact order s calls i source source' old new
  finish s calls source source' old new i bends measured u few all = record {
    few = few;
    all = all;
    answered = u.answered;
    in_turn = u.in_turn;
    plan = ap (λ (z : State). z.plan) u.state;
    past = record {
      answers = u.past;
      corners = subst (λ b. drop b new.corners.now ≡ drop b old.corners.now) u.corners.is u.corners.past;
      legs = subst (λ b. drop b new.legs.now ≡ drop b old.legs.now) u.legs.is u.legs.past;
    };
  }
