-- A ladder as a graph: from each rung, and from the ground, one goes up by one with a straight step, or by two with a diagonal one.
use Rattle.std.specs.Prelude.{◌≡◌, ℕ, ◌+◌, ◌-◌, ◌<◌, ◌≤◌, Bool, true, false, cond, Some, None, Option, ◌==◌, nat_lt, refl}
use Rattle.std.proofs.Common.{ap, arith}
use Rattle.std.proofs.lemmas.Bool.{ltb-true}
use Rattle.floor.specs.declared.Counts.{Counts}
use Rattle.floor.specs.Tally.{counts, steps}
use Rattle.rate.specs.Laws.{at_least}
use Rattle.rate.proofs.Derived.{facts}
use Rattle.search.specs.declared.graph.Position.{Position}
use Rattle.search.specs.declared.graph.Position.TheVariants.{Start, Place}
use Rattle.search.specs.declared.graph.Edge.{Edge}
use Rattle.search.specs.Chain.{Chain, start, step, Sound}

-- the rung above
abbrev pub next : Position → ℕ
next Start = 0
next (Place k) = k + 1

-- the edge to a rung, with these straight and diagonal steps
abbrev pub edge : ℕ → ℕ → ℕ → Edge
edge k a b = record { to = k; counts = counts a b }

-- the edges of a ladder of n rungs
abbrev pub rungs : ℕ → Position → ℕ → Option Edge
rungs n p t = cond (t == 0) (cond (nat_lt (next p) n) (Some (edge (next p) 1 0)) None) (cond (t == 1) (cond (nat_lt 1 (n - next p)) (Some (edge (next p + 1) 0 1)) None) None)

-- each edge goes up by at least its steps, of which it has one
record Up (n : ℕ) (p : Position) (e : Edge) : Type 0 where
  inside : e.to < n
  above : next p ≤ e.to
  one : steps e.counts ≡ 1

up_one : (n k a b : ℕ) (p : Position) (e : Edge) → Some (edge k a b) ≡ Some e → k < n → next p ≤ k → a + b ≡ 1 → Up n p e
up_one n k a b p e h l m o =
    let is : edge k a b ≡ e = cc in
    let x = ap (λ (z : Edge). z.to) is in
    let y = ap (λ (z : Edge). steps z.counts) is in
    record { inside = omega arith; above = omega arith; one = omega arith }

no_edge : (n : ℕ) (p : Position) (e : Edge) → None ≡ Some e → Up n p e
no_edge n p e h = absurd (let z : ◌≡◌ {A = ℕ} 0 1 = cc in omega arith)

up : (n : ℕ) (p : Position) (t : ℕ) (e : Edge) → rungs n p t ≡ Some e → Up n p e
up n p t e h = by (t == 0) (nat_lt (next p) n) (t == 1) (nat_lt 1 (n - next p)) h (λ x. ltb-true _ _ x) (λ x. ltb-true _ _ x)
  where
    by : (a b c d : Bool) → cond a (cond b (Some (edge (next p) 1 0)) None) (cond c (cond d (Some (edge (next p + 1) 0 1)) None) None) ≡ Some e → (b ≡ true → next p < n) → (d ≡ true → 1 < n - next p) → Up n p e
    by true true c d h f g = up_one n (next p) 1 0 p e h (f refl) (omega arith) refl
    by true false c d h f g = no_edge n p e h
    by false b true true h f g = up_one n (next p + 1) 0 1 p e h (let k = g refl in omega arith) (omega arith) refl
    by false b true false h f g = no_edge n p e h
    by false b false d h f g = no_edge n p e h

climbs : (n : ℕ) {p : Position} {c : Counts} → Chain (rungs n) p c → (steps c ≤ next p) × (next p ≤ n)
climbs n start = (omega arith, omega arith)
climbs n (step p c t e ch one is) =
    let u = up n p t e is in
    let a = u.above in
    let b = u.one in
    let i = u.inside in
    let d = (climbs n ch).0 in
    (omega arith, omega arith)

-- a ladder of ten rungs is a graph, whatever its goal: no chain has more steps than rungs
pub ladder_sound : (goal : ℕ → Bool) → Sound 10 (rungs 10) goal
ladder_sound goal = record {
  numbered = omega arith;
  fits = λ p t e is. let u = up 10 p t e is in let a = u.inside in let b = u.one in record { inside = a; some = omega arith; few = omega arith };
  short = λ k c g ch.
      let l = climbs 10 ch in
      record { place = k; hit = g; counts = c; chain = ch; short = omega arith; cheap = λ order law. ap at_least ((facts order law).itself c) };
}
