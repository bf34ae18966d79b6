-- A rival of any length is cut down to distinct cells, compared within the limit, and the uncut one costs at least that.
use Rattle.std.proofs.Common.{◌≡◌, ◌*◌, ◌<◌, ◌≤◌, true, false, List, [], ◌∷◌, length, sym, refl, ap, ◌∙◌, inl, inr, arith}
use Rattle.std.proofs.lemmas.Bool.{cases_lt, both_ways}
use Rattle.floor.specs.declared.Cell.{Cell}
use Rattle.floor.specs.declared.Counts.{Counts}
use Rattle.floor.specs.Tally.{counts, none, plus, steps}
use Rattle.floor.specs.Plane.{point}
use Rattle.floor.specs.Plans.{Plan, Sized, opens}
use Rattle.floor.specs.Routes.{Laying, Laid, Grows, Fair}
use Rattle.floor.specs.Facts.{Simple}
use Rattle.floor.proofs.Kept.{shorten, sixteen_thousand}
use Rattle.floor.proofs.Walks.{grown}
use Rattle.rate.specs.declared.Comparison.{Comparison}
use Rattle.rate.specs.declared.Comparison.TheVariants.{Cheaper, Same, Dearer}
use Rattle.rate.specs.Laws.{turned, at_least, Within, AtLeast, Lawful}
use Rattle.rate.specs.Facts.{Part, LessThan, Facts}
use Rattle.rate.proofs.Derived.{facts}
use Rattle.cheapest.specs.Cheapest.{Cheapest, Leg, total, Tour, CheapestLegs}
use Rattle.cheapest.specs.Claims.{longest, Rivals}

-- at least as much both ways is the same
pub both_at_least : (o : Comparison) → at_least o ≡ true → at_least (turned o) ≡ true → o ≡ Same
both_at_least Cheaper h k = absurd (both_ways false refl h)
both_at_least Same h k = refl
both_at_least Dearer h k = absurd (both_ways false refl k)

module _ (order : Counts → Counts → Comparison) (law : Lawful order) where
  fact : Facts order
  fact = facts order law

  -- a whole step more costs more, if what has it is a part of n
  dearer : (m n k : Counts) → Within (plus m k) → Within m → 1 ≤ steps k → Part (plus m k) n → LessThan order m n
  dearer m n k w v some p =
      fact.less_then m (plus m k) n (fact.outdone m (plus m k) v w (record { fewer = omega arith; shorter = omega arith })) (fact.part (plus m k) n p)

  -- a proper part of few steps is cheaper than the whole
  proper : (m n : Counts) → steps m ≤ longest → m.straight ≤ n.straight → m.diagonal ≤ n.diagonal → steps m < steps n → LessThan order m n
  proper m n few a b many = elim (cases_lt m.straight n.straight) [
    | inl l ↦ dearer m n (counts 1 0) (omega arith, omega arith) (omega arith, omega arith) (omega arith) (record { straights = omega arith; diagonals = omega arith })
    | inr l ↦ dearer m n (counts 0 1) (omega arith, omega arith) (omega arith, omega arith) (omega arith) (record { straights = omega arith; diagonals = omega arith })
  ]

  module _ (may : Laying) (fair : Fair may) where
    abbrev Way : Plan → Cell → Cell → Counts → Type 0
    Way p s t n = Laid may (opens p) (point s) (point t) n

    -- the rival cut down
    record Lesser (p : Plan) (s t : Cell) (n : Counts) : Type 0 where
      counts : Counts
      way : Way p s t counts
      few : steps counts ≤ longest
      straights : counts.straight ≤ n.straight
      diagonals : counts.diagonal ≤ n.diagonal
      cost : AtLeast order n counts

    lessen : (p : Plan) → Sized p → (s t : Cell) (n : Counts) → Way p s t n → Lesser p s t n
    lessen p z s t n r =
        let q : Simple may p (point s) (point t) n = shorten may fair p (point s) (point t) n r in
        record {
          counts = q.counts;
          way = q.route;
          few = sixteen_thousand p z (steps q.counts) q.few;
          straights = q.straights;
          diagonals = q.diagonals;
          cost = fact.part q.counts n (record { straights = q.straights; diagonals = q.diagonals });
        }

    short : (p : Plan) → Sized p → (s t : Cell) (n : Counts) → Cheapest order may p s t n → steps n ≤ longest
    short p z s t n c = elim (cases_lt longest (steps n)) [
      | inr l ↦ l
      | inl l ↦
          let q = lessen p z s t n c.route in
          absurd (fact.apart q.counts n (proper q.counts n q.few q.straights q.diagonals (omega (arith, q.few))) (c.least q.counts q.way))
    ]

    simple : (p : Plan) (s t : Cell) (n : Counts) → Sized p → Cheapest order may p s t n → steps n < p.rows * p.cols
    simple p s t n z c = elim (cases_lt (steps n) (p.rows * p.cols)) [
      | inl l ↦ l
      | inr l ↦
          let q : Simple may p (point s) (point t) n = shorten may fair p (point s) (point t) n c.route in
          let few = sixteen_thousand p z (steps q.counts) q.few in
          absurd (fact.apart q.counts n (proper q.counts n few q.straights q.diagonals (omega (arith, q.few))) (c.least q.counts q.route))
    ]

    enough : (p : Plan) → Sized p → (s t : Cell) (n : Counts) → Way p s t n → ((m : Counts) → steps m ≤ longest → Way p s t m → AtLeast order m n) → Cheapest order may p s t n
    enough p z s t n r least = record {
      route = r;
      least = λ m w. let q = lessen p z s t m w in law.passes m q.counts n q.cost (least q.counts q.few q.way);
    }

    equal : (p : Plan) (s t : Cell) (n m : Counts) → Cheapest order may p s t n → Cheapest order may p s t m → order n m ≡ Same
    equal p s t n m c d = both_at_least (order n m) (d.least n c.route) (ap at_least (sym (law.turns n m)) ∙ c.least m d.route)

    opening : (p q : Plan) → Grows (opens p) (opens q) → (s t : Cell) (n m : Counts) → Cheapest order may p s t n → Cheapest order may q s t m → AtLeast order n m
    opening p q grow s t n m c d = d.least n (grown may fair (opens p) (opens q) grow c.route)

    module _ (p : Plan) (z : Sized p) where
      -- no more steps than so many legs can have
      few_legs : (ls : List Leg) (ns : List Counts) → CheapestLegs order may p ls ns → steps (total ns) ≤ longest * length ls
      few_legs [] [] c = omega arith
      few_legs [] (n ∷ ns) c = absurd c
      few_legs (l ∷ ls) [] c = absurd c
      few_legs (l ∷ ls) (n ∷ ns) c =
          let a = short p z l.from l.to n c.0 in let b = few_legs ls ns c.1 in omega arith

      loops : (ls : List Leg) → length ls ≤ 64 → (ns : List Counts) → CheapestLegs order may p ls ns → Within (total ns)
      loops ls few ns c = let a = few_legs ls ns c in (omega arith, omega arith)

      -- a rival for the whole loop, cut down leg by leg, against the cheapest legs
      record Against (ls : List Leg) (ns ms : List Counts) : Type 0 where
        cut : Counts
        few : steps cut ≤ longest * length ls
        under : AtLeast order (total ms) cut × Part cut (total ms)
        over : AtLeast order cut (total ns)

      none_at_least : AtLeast order none none
      none_at_least = ap at_least (fact.itself none)

      against : (ls : List Leg) → length ls ≤ 64 → (ns ms : List Counts) → CheapestLegs order may p ls ns → Tour may p ls ms → Against ls ns ms
      against [] few [] [] c t = record { cut = none; few = omega arith; under = (none_at_least, record { straights = omega arith; diagonals = omega arith }); over = none_at_least }
      against [] few [] (m ∷ ms) c t = absurd t
      against [] few (n ∷ ns) ms c t = absurd c
      against (l ∷ ls) few [] ms c t = absurd c
      against (l ∷ ls) few (n ∷ ns) [] c t = absurd t
      against (l ∷ ls) few (n ∷ ns) (m ∷ ms) c t =
          let r : Against ls ns ms = against ls (omega arith) ns ms c.1 t.1 in
          let q : Lesser p l.from l.to m = lessen p z l.from l.to m t.0 in
          let a = few_legs ls ns c.1 in
          let b = short p z l.from l.to n c.0 in
          let f = r.few in
          let g = q.few in
          let part : Part (plus q.counts r.cut) (plus m (total ms)) =
          record { straights = omega (arith, q.straights, r.under.1.straights); diagonals = omega (arith, q.diagonals, r.under.1.diagonals) } in
          record {
            cut = plus q.counts r.cut;
            few = omega arith;
            under = (fact.part (plus q.counts r.cut) (plus m (total ms)) part, part);
            over = fact.sums q.counts n r.cut (total ns) (omega arith, omega arith) (omega arith, omega arith) (c.0.least q.counts q.way) r.over;
          }

      whole : (ls : List Leg) → length ls ≤ 64 → (ns : List Counts) → CheapestLegs order may p ls ns → (ms : List Counts) → Tour may p ls ms → AtLeast order (total ms) (total ns)
      whole ls few ns c ms t =
          let r = against ls few ns ms c t in law.passes (total ms) r.cut (total ns) r.under.0 r.over

    pub rivals : Rivals order may
    rivals = record { short = short; simple = simple; enough = enough; equal = equal; opening = opening; loops = loops; whole = whole }
