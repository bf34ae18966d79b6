-- From steps to jumps: along a pruned route to the target each successor lies on the route, so the route is a chain with the same counts.
use Rattle.std.proofs.Common.{◌≡◌, ℕ, zero, suc, ◌≤◌, Bool, true, false, cond, ◌||◌, List, [], ◌∷◌, length, Some, sym, refl, ap, ◌∙◌, subst, inl, inr, not-suc-le-zero, arith}
use Rattle.std.proofs.lemmas.Bool.{cases_Bool, both_ways, and_from, or_left, or_right, or_parts, cond-true, cond-false}
use Rattle.floor.specs.declared.Counts.{Counts}
use Rattle.floor.specs.declared.Heading.{Heading}
use Rattle.floor.specs.declared.Side.{Side}
use Rattle.floor.specs.declared.Side.TheVariants.{Left, Right}
use Rattle.floor.specs.Tally.{none, plus}
use Rattle.floor.specs.Plane.{Point, same, turn, diagonal, step}
use Rattle.floor.specs.Plans.{Plan, opens, legal}
use Rattle.floor.specs.Routes.{end, one, tally, Walk}
use Rattle.floor.specs.Jumps.{walk, stop, stops, jump_from}
use Rattle.floor.specs.Places.{Position, start, place, spot, sights, many, opened, goes_on, successor, Chain, begin, leap}
use Rattle.floor.proofs.Plane.{beside_diagonal, undo}
use Rattle.floor.proofs.Walks.{plus_assoc, plus_none, none_plus, many_more}
use Rattle.floor.proofs.Numbers.{same_self}
use Rattle.floor.proofs.Jumps.{scanned, scan_found, scan_further, straight_mark, diagonal_mark, jump_straight, jump_diagonal}
use Rattle.pruning.specs.Claims.{Linked}
use Rattle.pruning.proofs.Prune.{Goes, on, veer, bend, wheel, After, Pruned}
use Rattle.pruning.proofs.Sightings.{sights_self, line, line_step, line_sights, one_on, successor_sighted, successor_landed, successor_on}

-- Induction on a route, where the case of more steps and of none begin alike.
abbrev Later : (List Heading → Type 0) → List Heading → Type 0
Later P [] = Unit {0}
Later P (g ∷ gs) = P gs

over : (P : List Heading → Type 0) → ((gs : List Heading) → Later P gs → P gs) → (gs : List Heading) → P gs
over P f [] = f [] tt
over P f (g ∷ gs) = f (g ∷ gs) (over P f gs)

module _ (p : Plan) where
  stop_stops : (x : Point) (h : Heading) (s : Side) → stop (opens p) x h s ≡ true → stops (opens p) x h ≡ true
  stop_stops x h Left z = or_left _ _ z
  stop_stops x h Right z = or_right _ _ z

  -- ---- behind a dead straight jump

  -- Past no stop a pruned route after a straight step goes straight on.
  abbrev Dead : List Heading → Type 0
  Dead gs = (h : Heading) (x : Point) → diagonal h ≡ false → Walk legal (opens p) x (h ∷ gs) → After (opens p) x h gs →
      (scanned p (straight_mark p h) h x).1 ≡ false → line h (end (step h x) gs) ≡ line h x

  dead_goes : (gs : List Heading) → Dead gs → (h g : Heading) (x : Point) → diagonal h ≡ false → Walk legal (opens p) (step h x) (g ∷ gs) → Goes (opens p) x h g →
      After (opens p) (step h x) g gs → stops (opens p) x h ≡ false → (scanned p (straight_mark p h) h (step h x)).1 ≡ false → line h (end (step h x) (g ∷ gs)) ≡ line h x
  dead_goes gs rec h g x d w on a z dead = rec h (step h x) d w a dead ∙ line_step h x d
  dead_goes gs rec h g x d w (veer s e) a z dead = absurd (both_ways _ d e)
  dead_goes gs rec h g x d w (bend s e st) a z dead = absurd (both_ways _ z (stop_stops x h s st))
  dead_goes gs rec h g x d w (wheel s e st) a z dead = absurd (both_ways _ z (stop_stops x h s st))

  dead_past : (gs : List Heading) → Later Dead gs → (h : Heading) (x : Point) → diagonal h ≡ false → Walk legal (opens p) x (h ∷ gs) → After (opens p) x h gs →
      stops (opens p) x h ≡ false → (scanned p (straight_mark p h) h (step h x)).1 ≡ false → line h (end (step h x) gs) ≡ line h x
  dead_past [] rec h x d w a z dead = line_step h x d
  dead_past (g ∷ gs) rec h x d w a z dead = dead_goes gs rec h g x d w.1 a.0 a.1 z dead

  dead_run : (gs : List Heading) → Dead gs
  dead_run = over Dead (λ gs rec h x d w a dead. elim (cases_Bool (stops (opens p) x h)) [
    | inl z ↦ absurd (both_ways _ dead (ap (λ (j : ℕ × Bool). j.1) (scan_found p (straight_mark p h) h x w.0 z)))
    | inr z ↦ dead_past gs rec h x d w a z (sym (ap (λ (j : ℕ × Bool). j.1) (scan_further p (straight_mark p h) h x w.0 z)) ∙ dead)
  ])

  -- ---- the first leap along a pruned route

  -- where a jump ends
  abbrev ends_jump : Heading → Point → Bool
  ends_jump h x = cond (diagonal h) (diagonal_mark p h x) (straight_mark p h x)

  jump_found : (x : Point) (h : Heading) → legal (opens p) x h ≡ true → ends_jump h x ≡ true → jump_from p x h ≡ (1, true)
  jump_found x h l m = elim (cases_Bool (diagonal h)) [
    | inl d ↦ jump_diagonal p x h d ∙ scan_found p (diagonal_mark p h) h x l (sym (cond-true (diagonal h) _ _ d) ∙ m)
    | inr d ↦ jump_straight p x h d ∙ scan_found p (straight_mark p h) h x l (sym (cond-false (diagonal h) _ _ d) ∙ m)
  ]

  jump_further : (x : Point) (h : Heading) → legal (opens p) x h ≡ true → ends_jump h x ≡ false →
      jump_from p x h ≡ (suc (jump_from p (step h x) h).0, (jump_from p (step h x) h).1)
  jump_further x h l m = elim (cases_Bool (diagonal h)) [
    | inl d ↦ jump_diagonal p x h d ∙ scan_further p (diagonal_mark p h) h x l (sym (cond-true (diagonal h) _ _ d) ∙ m) ∙ ap more (sym (jump_diagonal p (step h x) h d))
    | inr d ↦ jump_straight p x h d ∙ scan_further p (straight_mark p h) h x l (sym (cond-false (diagonal h) _ _ d) ∙ m) ∙ ap more (sym (jump_straight p (step h x) h d))
  ]
    where
      more : ℕ × Bool → ℕ × Bool
      more j = (suc j.0, j.1)

  module _ (t : Point) where
    -- The first leap along the route h ∷ gs from x: where its last step begins, and what is left of the route.
    record Leap (x : Point) (h : Heading) (gs : List Heading) : Type 0 where
      far : ℕ
      next : successor p t x h ≡ Some (suc far)
      before : Point
      reached : step h before ≡ walk h (suc far) x
      remain : List Heading
      walks : Walk legal (opens p) (step h before) remain
      onward : After (opens p) before h remain
      ends : end (step h before) remain ≡ t
      counted : tally (h ∷ gs) ≡ plus (many h (suc far)) (tally remain)
      shorter : length remain ≤ length gs

    -- a leap of one step
    one_step : (x : Point) (h : Heading) (gs : List Heading) → successor p t x h ≡ Some 1 → Walk legal (opens p) (step h x) gs → After (opens p) x h gs → end (step h x) gs ≡ t → Leap x h gs
    one_step x h gs n w a q =
        record { far = 0; next = n; before = x; reached = refl; remain = gs; walks = w; onward = a; ends = q; counted = refl; shorter = omega arith }

    -- a leap of one step more
    longer : (x : Point) (h : Heading) (gs : List Heading) → successor p t x h ≡ one_on (successor p t (step h x) h) → Leap (step h x) h gs → Leap x h (h ∷ gs)
    longer x h gs n r =
        record {
          far = suc r.far;
          next = n ∙ ap one_on r.next;
          before = r.before;
          reached = r.reached;
          remain = r.remain;
          walks = r.walks;
          onward = r.onward;
          ends = r.ends;
          counted = ap (plus (one h)) r.counted ∙ sym (plus_assoc (one h) (many h (suc r.far)) (tally r.remain)) ∙
              ap (λ n. plus n (tally r.remain)) (many_more h (suc r.far));
          shorter = omega (arith, r.shorter);
        }

    abbrev Leaps : List Heading → Type 0
    Leaps gs = (x : Point) (h : Heading) → Walk legal (opens p) x (h ∷ gs) → After (opens p) x h gs → end (step h x) gs ≡ t → Leap x h gs

    quiet : (h : Heading) (x : Point) → diagonal h ≡ true → ends_jump h x ≡ false → (s : Side) → (scanned p (straight_mark p (turn s h)) (turn s h) (step h x)).1 ≡ false
    quiet h x d z Left = (or_parts _ _ (sym (cond-true (diagonal h) _ _ d) ∙ z)).0
    quiet h x d z Right = (or_parts _ _ (sym (cond-true (diagonal h) _ _ d) ∙ z)).1

    no_stop : (h : Heading) (x : Point) (s : Side) {A : Type 0} → diagonal h ≡ false → ends_jump h x ≡ false → stop (opens p) x h s ≡ true → A
    no_stop h x s d z st = absurd (both_ways _ (sym (cond-false (diagonal h) _ _ d) ∙ z) (stop_stops x h s st))

    leaps_goes : (gs : List Heading) → Leaps gs → (x : Point) (h g : Heading) → Walk legal (opens p) x (h ∷ g ∷ gs) → Goes (opens p) x h g → After (opens p) (step h x) g gs →
        end (step h x) (g ∷ gs) ≡ t → sights t h (step h x) ≡ false → ends_jump h x ≡ false → Leap x h (g ∷ gs)
    leaps_goes gs rec x h g w on a q f z = longer x h gs (successor_on p t h x (jump_further x h w.0 z) f) (rec (step h x) h w.1 a q)
    leaps_goes gs rec x h g w (veer s d) a q f z =
        absurd (both_ways _ f (line_sights t h (step h x) (turn s h) d
        (ap (line (turn s h)) (sym q) ∙ dead_run gs (turn s h) (step h x) (beside_diagonal s h d) w.1 a (quiet h x d z s))))
    leaps_goes gs rec x h g w (bend s d st) a q f z = no_stop h x s d z st
    leaps_goes gs rec x h g w (wheel s d st) a q f z = no_stop h x s d z st

    leaps_past : (gs : List Heading) → Later Leaps gs → (x : Point) (h : Heading) → Walk legal (opens p) x (h ∷ gs) → After (opens p) x h gs →
        end (step h x) gs ≡ t → sights t h (step h x) ≡ false → ends_jump h x ≡ false → Leap x h gs
    leaps_past [] rec x h w a q f z = absurd (both_ways _ f (sights_self h (step h x) t q))
    leaps_past (g ∷ gs) rec x h w a q f z = leaps_goes gs rec x h g w a.0 a.1 q f z

    -- On a pruned route to the target each successor lies on the route.
    leaps : (gs : List Heading) → Leaps gs
    leaps = over Leaps (λ gs rec x h w a q. elim (cases_Bool (ends_jump h x)) [
      | inl z ↦ elim (cases_Bool (sights t h (step h x))) [
        | inl v ↦ one_step x h gs (successor_sighted p t h x _ _ (jump_found x h w.0 z) v) w.1 a q
        | inr f ↦ one_step x h gs (successor_landed p t h x (jump_found x h w.0 z) f) w.1 a q
      ]
      | inr z ↦ elim (cases_Bool (sights t h (step h x))) [
        | inl v ↦ one_step x h gs (successor_sighted p t h x _ _ (jump_further x h w.0 z) v) w.1 a q
        | inr f ↦ leaps_past gs rec x h w a q f z
      ]
    ])

  -- ---- chains

  -- The headings of a route go on, one after the other, from where a chain stands.
  abbrev Onward : Position → List Heading → Type 0
  Onward at [] = Unit {0}
  Onward at (g ∷ gs) = (goes_on p at g ≡ true) × After (opens p) (spot at) g gs

  either_side : (test : Side → Bool) (s : Side) → test s ≡ true → (test Left || test Right) ≡ true
  either_side test Left e = or_left _ _ e
  either_side test Right e = or_right _ _ e

  -- what goes on after a step goes on from the place that it leads to
  goes : (x : Point) (h g : Heading) → Goes (opens p) x h g → goes_on p (place (step h x) h) g ≡ true
  goes x h g on = or_left _ _ (same_self h)
  goes x h g (veer s d) = or_right _ _ (cond-true (diagonal h) _ _ d ∙ either_side (λ b. same g (turn b h)) s (same_self g))
  goes x h g (bend s d st) = or_right _ _ (cond-false (diagonal h) _ _ d ∙ either_side (opened p (step h x) h g) s
      (and_from _ _ (subst (λ y. stop (opens p) y h s ≡ true) (sym (undo h x)) st) (or_left _ _ (same_self g))))
  goes x h g (wheel s d st) = or_right _ _ (cond-false (diagonal h) _ _ d ∙ either_side (opened p (step h x) h g) s
      (and_from _ _ (subst (λ y. stop (opens p) y h s ≡ true) (sym (undo h x)) st) (or_right _ _ (same_self g))))

  onwards : (x : Point) (h : Heading) (gs : List Heading) → After (opens p) x h gs → Onward (place (step h x) h) gs
  onwards x h [] a = tt
  onwards x h (g ∷ gs) a = (goes x h g a.0, a.1)

  module _ (s t : Point) where
    -- a chain so far and a pruned route from where it stands, of at most m steps, make a chain
    chains : (m : ℕ) (at : Position) (n : Counts) (hs : List Heading) → length hs ≤ m → Chain p s t at n → Walk legal (opens p) (spot at) hs → Onward at hs → end (spot at) hs ≡ t →
        Linked p s t (plus n (tally hs))
    chains m at n [] b c w o q = record { last = at; arrives = q; chain = subst (λ k. Chain p s t at k) (sym (plus_none n)) c }
    chains zero at n (h ∷ hs) b c w o q = absurd (not-suc-le-zero b)
    chains (suc m) at n (h ∷ hs) b c w o q =
        let r : Leap t (spot at) h hs = leaps t hs (spot at) h w o.1 q in
        let k : ℕ = suc r.far in
        let on : Onward (place (walk h k (spot at)) h) r.remain = subst (λ y. Onward (place y h) r.remain) r.reached (onwards r.before h r.remain r.onward) in
        subst (Linked p s t) (plus_assoc n (many h k) (tally r.remain) ∙ ap (plus n) (sym r.counted))
        (chains m (place (walk h k (spot at)) h) (plus n (many h k)) r.remain (omega (arith, r.shorter)) (leap c h k o.0 r.next)
        (subst (λ y. Walk legal (opens p) y r.remain) r.reached r.walks) on (ap (λ y. end y r.remain) (sym r.reached) ∙ r.ends))

    begins : (hs : List Heading) → Pruned (opens p) s hs → Onward (start s) hs
    begins [] a = tt
    begins (h ∷ hs) a = (refl, a)

    -- Each legal pruned route is a chain with the same counts.
    pub complete : (hs : List Heading) → Walk legal (opens p) s hs → Pruned (opens p) s hs → end s hs ≡ t → Linked p s t (tally hs)
    complete hs w o q = subst (Linked p s t) (none_plus (tally hs)) (chains (length hs) (start s) none hs (omega arith) begin w (begins hs o) q)
