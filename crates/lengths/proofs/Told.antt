-- What a search finds is a cheapest route, and where it finds nothing there is none: every route has a chain to the target that is never dearer.
use Rattle.std.proofs.Common.{◌≡◌, ℕ, Bool, true, false, not, [], refl, subst, arith}
use Rattle.std.proofs.lemmas.Bool.{and_parts, and_from}
use Rattle.floor.specs.declared.Cell.{Cell}
use Rattle.floor.specs.declared.Counts.{Counts}
use Rattle.floor.specs.Tally.{none}
use Rattle.floor.specs.Plane.{point}
use Rattle.floor.specs.Plans.{Plan, Sized, opens, is_open, legal}
use Rattle.floor.specs.Routes.{Laid, Route}
use Rattle.floor.specs.Places.{place}
use Rattle.floor.specs.Places as floor
use Rattle.rate.specs.declared.Comparison.{Comparison}
use Rattle.rate.specs.Laws.{Lawful}
use Rattle.rate.proofs.Derived.{facts}
use Rattle.cheapest.specs.Cheapest.{Cheapest}
use Rattle.pruning.proofs.Pruning.{every_chain_is_a_route}
use Rattle.search.specs.Mark.{Mark}
use Rattle.search.specs.Search as search
use Rattle.places.specs.Leaps.{cell_of, heading_of, out, same_cell, goal}
use Rattle.places.proofs.Numbers.{same_cell_is}
use Rattle.places.proofs.Chains.{to_floor}
use Rattle.places.proofs.Sound.{Direct, direct}

-- a route of no steps is cheaper than none
pub stay : (order : Counts → Counts → Comparison) → Lawful order → (p : Plan) (s : Cell) → is_open p s ≡ true → Cheapest order legal p s s none
stay order law p s o = record {
  route = record { headings = []; starts = o; walks = tt; ends = refl; counted = refl };
  least = λ m r. (facts order law).part none m (record { straights = omega arith; diagonals = omega arith });
}

module _ (order : Counts → Counts → Comparison) (law : Lawful order) (p : Plan) (z : Sized p) (s t : Cell) (ne : s ≡ t → ⊥) where
  apart : not (same_cell s t) ≡ true
  apart = by (same_cell s t) refl
    where
      by : (b : Bool) → same_cell s t ≡ b → not b ≡ true
      by true e = absurd (ne (same_cell_is s t e))
      by false e = refl

  hit : (k : ℕ) → same_cell (cell_of p.cols k) t ≡ true → goal p s t k ≡ true
  hit k e = and_from (not (same_cell s t)) (same_cell (cell_of p.cols k) t) apart e

  pub found : is_open p s ≡ true → (marks : ℕ → Mark) (k : ℕ) (c : Counts) → search.Cheapest (out p s t) order (goal p s t) marks k c → Cheapest order legal p s t c
  found o marks k c f =
      let g = and_parts (not (same_cell s t)) (same_cell (cell_of p.cols k) t) f.hit in
      let ch : floor.Chain p (point s) (point t) (place (point (cell_of p.cols k)) (heading_of k)) c = to_floor p s t (f.chained k (record { counts = c; from = f.from }) f.there) in
      let r : Laid legal (opens p) (point s) (point (cell_of p.cols k)) c = every_chain_is_a_route p s t (place (point (cell_of p.cols k)) (heading_of k)) c o ch in
      record {
        route = subst (λ (x : Cell). Laid legal (opens p) (point s) (point x) c) (same_cell_is (cell_of p.cols k) t g.1) r;
        least = λ m w.
            let d : Direct p z s t m = direct p z s t m ne w in
            law.passes m d.counts_of c (d.cheap order law) (f.cheapest d.place_at d.counts_of (hit d.place_at d.hit) d.chain);
      }

  pub nowhere : search.NoWay (out p s t) order (goal p s t) → (m : Counts) → Route p s t m → ⊥
  nowhere f m w = let d : Direct p z s t m = direct p z s t m ne w in f d.place_at d.counts_of (hit d.place_at d.hit) d.chain
