-- The way back from a finished place: each edge leaves fewer steps, so it ends at the start.
use Rattle.std.proofs.Common.{◌≡◌, ℕ, ◌+◌, ◌≤◌, true, Some, Option, sym, refl, ap, ◌∙◌, subst, arith}
use Rattle.floor.specs.Tally.{none, plus, steps}
use Rattle.search.specs.declared.graph.Position.{Position}
use Rattle.search.specs.declared.graph.Position.TheVariants.{Start, Place}
use Rattle.search.specs.declared.graph.Edge.{Edge}
use Rattle.search.specs.declared.entry.Reached.{Reached}
use Rattle.search.specs.Chain.{most, Fits}
use Rattle.search.specs.Mark.{Mark, Done, reached, key, is_done, standing}
use Rattle.search.specs.Search.{Made, Traced, Back, home, hop}
use Rattle.search.proofs.Marks.{same_done, done_is}

-- The way back from p has come to the position at, by so many edges.
pub record Walked (out : Position → ℕ → Option Edge) (s : ℕ → Mark) (p : ℕ) (at : Position) (count : ℕ) : Type 0 where
  pub base : Reached
  pub here : standing s at ≡ Done base
  pub few : count + steps base.counts ≤ steps (key (s p))
  pub rest : (m : ℕ) → Back out s at base.counts m → Back out s (Place p) (key (s p)) (m + count)

module _ (n : ℕ) (out : Position → ℕ → Option Edge) (fits : (p : Position) (t : ℕ) (e : Edge) → out p t ≡ Some e → Fits n e) (s : ℕ → Mark) (traced : Traced out s) (p : ℕ) (done : is_done (s p) ≡ true) where
  pub bound : steps (key (s p)) ≤ most
  bound =
      let d = done_is (s p) done in
      let b = (traced p d.0 d.1).bound in
      let e : steps (key (s p)) ≡ steps d.0.counts = ap (λ x. steps (key x)) d.1 in
      omega arith

  pub sets_out : Walked out s p (Place p) 0
  sets_out =
      let d = done_is (s p) done in
      let e : key (s p) ≡ d.0.counts = ap key d.1 in
      let f : steps (key (s p)) ≡ steps d.0.counts = ap steps e in
      record {
        base = d.0;
        here = d.1;
        few = omega arith;
        rest = λ m b. let z : m ≡ m + 0 = omega arith in subst (λ k. Back out s (Place p) (key (s p)) k) z (subst (λ c. Back out s (Place p) c m) (sym e) b);
      }

  -- one edge back from k, which was reached as r
  module _ (k count : ℕ) (w : Walked out s p (Place k) count) (r : Reached) (is : r ≡ w.base) where
    made : Made out s k w.base
    made = traced k w.base w.here

    pub fewer : steps (key (standing s r.from)) + 1 ≤ steps w.base.counts
    fewer =
        let m = made in
        let some = (fits _ _ m.edge m.is).some in
        let a : steps w.base.counts ≡ steps (plus m.base.counts m.edge.counts) = ap steps m.sum in
        let b : steps (key (standing s r.from)) ≡ steps m.base.counts = ap (λ (x : Reached). steps (key (standing s x.from))) is ∙ ap (λ x. steps (key x)) m.done in
        omega arith

    pub goes_on : Walked out s p r.from (count + 1)
    goes_on =
        let m = made in
        let some = (fits _ _ m.edge m.is).some in
        let a : steps w.base.counts ≡ steps (plus m.base.counts m.edge.counts) = ap steps m.sum in
        let low = w.few in
        subst (λ (x : Reached). Walked out s p x.from (count + 1)) (sym is) (record {
          base = m.base;
          here = m.done;
          few = omega arith;
          rest = λ j b. let z : j + 1 + count ≡ j + (count + 1) = omega arith in subst (λ h. Back out s (Place p) (key (s p)) h) z (w.rest (j + 1) (hop k w.base j w.here m b));
        })

  pub comes_home : (count : ℕ) → Walked out s p Start count → Back out s (Place p) (key (s p)) count
  comes_home count w =
      let e : none ≡ w.base.counts = ap (λ (x : Reached). x.counts) (same_done (Done (reached none Start)) (reached none Start) w.base refl w.here) in
      let z : 0 + count ≡ count = omega arith in
      subst (λ h. Back out s (Place p) (key (s p)) h) z (w.rest 0 (subst (λ c. Back out s Start c 0) e home))
