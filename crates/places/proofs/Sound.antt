-- The graph of leaps is sound: its edges fit, and every chain to the target has one of few steps that is never dearer.
-- A chain is a route; the route is cut down to distinct cells; and a chain dominates what is left.
use Rattle.std.proofs.Common.{◌≡◌, ℕ, ◌*◌, ◌≤◌, true, false, not, Some, sym, refl, ap, ◌∙◌, subst, arith}
use Rattle.std.proofs.lemmas.Nat.{mul-le}
use Rattle.std.proofs.lemmas.Bool.{both_ways, and_parts, and_from, not-true}
use Rattle.floor.specs.declared.Cell.{Cell}
use Rattle.floor.specs.declared.Counts.{Counts}
use Rattle.floor.specs.declared.Heading.{Heading}
use Rattle.floor.specs.Tally.{steps, Dominates}
use Rattle.floor.specs.Plane.{Point, point}
use Rattle.floor.specs.Plans.{Plan, Sized, opens, legal}
use Rattle.floor.specs.Routes.{Laid, Route}
use Rattle.floor.specs.Facts.{Simple}
use Rattle.floor.specs.Places.{start, place, spot, place_number, many, successor, begin}
use Rattle.floor.specs.Places as floor
use Rattle.floor.proofs.Legal.{legal_fair}
use Rattle.floor.proofs.Kept.{shorten, sixteen_thousand}
use Rattle.rate.specs.Facts as rate
use Rattle.floor.proofs.Cells.{cell_known}
use Rattle.floor.proofs.Walks.{many_steps}
use Rattle.rate.proofs.Derived.{facts}
use Rattle.pruning.specs.Claims.{Linked}
use Rattle.pruning.proofs.Pruning.{no_cheaper_run_is_lost, every_chain_is_a_route, successors_are_leaps}
use Rattle.search.specs.declared.graph.Position.{Position}
use Rattle.search.specs.declared.graph.Position.TheVariants.{Start, Place}
use Rattle.search.specs.declared.graph.Edge.{Edge}
use Rattle.search.specs.Chain as search
use Rattle.search.specs.Chain.{most, NeverDearer, Short, Fits, Sound}
use Rattle.places.specs.Leaps.{cell_of, heading_of, stands, out, same_cell, goal}
use Rattle.places.proofs.Numbers.{same_cell_is, same_cell_from}
use Rattle.places.proofs.Chains.{Leapt, leapt, Lands, lands, to_floor, Numbered, from_floor}

module _ (p : Plan) (z : Sized p) (s t : Cell) where
  -- ---- fitting edges

  edge_fits : (q : Position) (n : ℕ) (e : Edge) → out p s t q n ≡ Some e → Fits (8 * (p.rows * p.cols)) e
  edge_fits q n e h =
      let l : Leapt p s t q n e = leapt p s t q n e h in
      let w : Lands p s t (spot (stands p.cols s q)) l.course l.steps = lands p s t (spot (stands p.cols s q)) l.course l.steps l.far in
      let m = many_steps l.course l.steps in
      let a = w.legs.some in
      let b = w.legs.short z in
      subst (λ (d : Edge). Fits (8 * (p.rows * p.cols)) d) (sym l.is) (record { inside = w.fits; some = omega arith; few = omega arith })

  -- ---- short chains

  -- a chain that has left its start left an open cell
  pub open_start : {at : floor.Position} {n : Counts} → floor.Chain p (point s) (point t) at n → (x : Point) (h : Heading) → at ≡ place x h → opens p (point s) ≡ true
  open_start begin x h e = absurd (let y : ◌≡◌ {A = ℕ} 0 1 = cc in omega arith)
  open_start (floor.leap {at = start y} ch g k on far) x h e = subst (λ u. opens p u ≡ true) (begins ch) (successors_are_leaps p (point t) y g k far).route.starts
    where
      begins : {y : Point} {n : Counts} → floor.Chain p (point s) (point t) (start y) n → y ≡ point s
      begins begin = refl
  open_start (floor.leap {at = place y j} ch g k on far) x h e = open_start ch y j refl

  -- a route from s to t, as a chain to a place on t with no more than half of the most steps
  pub record Direct (n : Counts) : Type 0 where
    pub place_at : ℕ
    pub hit : same_cell (cell_of p.cols place_at) t ≡ true
    pub counts_of : Counts
    pub chain : search.Chain (out p s t) (Place place_at) counts_of
    pub few : 2 * steps counts_of ≤ most
    pub cheap : NeverDearer counts_of n

  never_dearer : (n : Counts) (q : Simple legal p (point s) (point t) n) (m : Counts) → Dominates m q.counts → steps q.counts ≤ 16383 → NeverDearer m n
  never_dearer n q m d few order law =
      let f : rate.Facts order = facts order law in
      let a = d.fewer in
      law.passes n q.counts m (f.part q.counts n (record { straights = q.straights; diagonals = q.diagonals }))
      (f.dominance m q.counts (omega arith, omega arith) (omega arith, omega arith) (d))

  at_place : (x : Position) (m : Counts) → (s ≡ t → ⊥) → spot (stands p.cols s x) ≡ point t → search.Chain (out p s t) x m → (n : Counts) → 2 * steps m ≤ most → NeverDearer m n → Direct n
  at_place Start m ne e ch n few cheap = absurd (ne (cell_known e))
  at_place (Place k) m ne e ch n few cheap = record { place_at = k; hit = same_cell_from (cell_of p.cols k) t (cell_known e); counts_of = m; chain = ch; few = few; cheap = cheap }

  pub direct : (n : Counts) → (s ≡ t → ⊥) → Route p s t n → Direct n
  direct n ne r =
      let q : Simple legal p (point s) (point t) n = shorten legal legal_fair p (point s) (point t) n r in
      let few : steps q.counts ≤ 16383 = sixteen_thousand p z (steps q.counts) q.few in
      let c = no_cheaper_run_is_lost p s t q.counts q.route in
      let l : Linked p (point s) (point t) c.0 = c.1 in
      let d : Numbered p s t l.last c.0 = from_floor p s t l.chain in
      let dom : Dominates c.0 q.counts = c.2 in
      at_place d.position c.0 ne (ap spot d.lies ∙ l.arrives) d.chain n (omega (arith, dom.fewer)) (never_dearer n q c.0 dom few)

  short : (k : ℕ) (n : Counts) → goal p s t k ≡ true → search.Chain (out p s t) (Place k) n → Short (out p s t) (goal p s t) n
  short k n g ch =
      let h = and_parts (not (same_cell s t)) (same_cell (cell_of p.cols k) t) g in
      let apart : same_cell s t ≡ false = not-true (same_cell s t) h.0 in
      let ne : s ≡ t → ⊥ = λ e. both_ways (same_cell s t) apart (same_cell_from s t e) in
      let w : floor.Chain p (point s) (point t) (place (point (cell_of p.cols k)) (heading_of k)) n = to_floor p s t ch in
      let o : opens p (point s) ≡ true = open_start w (point (cell_of p.cols k)) (heading_of k) refl in
      let r : Laid legal (opens p) (point s) (point (cell_of p.cols k)) n = every_chain_is_a_route p s t (place (point (cell_of p.cols k)) (heading_of k)) n o w in
      let d : Direct n = direct n ne (subst (λ (c : Cell). Laid legal (opens p) (point s) (point c) n) (same_cell_is (cell_of p.cols k) t h.1) r) in
      record {
        place = d.place_at;
        hit = and_from (not (same_cell s t)) (same_cell (cell_of p.cols d.place_at) t) h.0 d.hit;
        counts = d.counts_of;
        chain = d.chain;
        short = d.few;
        cheap = d.cheap;
      }

  pub sound : Sound (8 * (p.rows * p.cols)) (out p s t) (goal p s t)
  sound = record {
    numbered = let m = mul-le p.rows p.cols 128 128 z.few_rows z.few_cols in omega arith;
    fits = edge_fits;
    short = short;
  }
