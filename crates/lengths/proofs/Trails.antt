-- The way back from a finished place, as the corners of a route: turned round it is a route with just the counts of the place.
use Rattle.std.proofs.Common.{◌≡◌, ℕ, zero, suc, ◌-◌, ◌<◌, ◌≤◌, Bool, true, false, cond, List, [], ◌∷◌, ◌++◌, map, replicate, Some, sym, refl, ap, ◌∙◌, subst, not-suc-le-zero, arith}
use Rattle.std.proofs.lemmas.List.{map-append}
use Rattle.floor.specs.declared.Cell.{Cell}
use Rattle.floor.specs.declared.Counts.{Counts}
use Rattle.floor.specs.declared.Heading.{Heading}
use Rattle.floor.specs.Tally.{none, plus, steps}
use Rattle.floor.specs.Plane.{Point, point, same, step}
use Rattle.floor.specs.Plans.{Plan, opens, legal}
use Rattle.floor.specs.Routes.{end, tally, Walk}
use Rattle.floor.specs.Jumps.{walk}
use Rattle.floor.specs.Places.{spot, many}
use Rattle.floor.proofs.Jumps.{jump_legal}
use Rattle.floor.proofs.Walks.{many_steps, end-++, tally-++, walk-++, none_plus}
use Rattle.floor.proofs.Runs.{tally_run}
use Rattle.pruning.proofs.Sound.{run_walks, run_end}
use Rattle.search.specs.declared.graph.Position.{Position}
use Rattle.search.specs.declared.graph.Position.TheVariants.{Start, Place}
use Rattle.search.specs.declared.graph.Edge.{Edge}
use Rattle.search.specs.declared.entry.Reached.{Reached}
use Rattle.search.specs.Mark.{Mark, Done, standing}
use Rattle.search.specs.Search.{Made, Traced}
use Rattle.places.specs.Leaps.{cell_of, heading_of, stands, out}
use Rattle.places.proofs.Numbers.{facing}
use Rattle.places.proofs.Chains.{Leapt, leapt, Lands, lands}
use Rattle.lengths.specs.Trail.{Trail, direct, onward, bend, Falls}
use Rattle.lengths.specs.Answers.{Bent}
use Rattle.lengths.proofs.Bending.{inner, final, corners_inner, inner_run, final_run, final-++, inner-++}

module _ (p : Plan) (s t : Cell) (marks : ℕ → Mark) (traced : Traced (out p s t) marks) where
  -- a route to a place: its first heading and the others, and the corners that the way back meets
  pub record Path (k : ℕ) (n : Counts) (cs : List Cell) : Type 0 where
    pub course : Heading
    pub others : List Heading
    pub walks : Walk legal (opens p) (point s) (course ∷ others)
    pub ends : end (point s) (course ∷ others) ≡ point (cell_of p.cols k)
    pub counted : tally (course ∷ others) ≡ n
    pub inners : map point cs ≡ point s ∷ inner (step course (point s)) course others
    pub arrival : final course others ≡ heading_of k

  -- a leap, as a run of legal steps to a place's cell
  record Run (q : Position) (k : ℕ) (n : Counts) : Type 0 where
    course : Heading
    more : ℕ
    walks : Walk legal (opens p) (spot (stands p.cols s q)) (replicate (suc more) course)
    ends : end (spot (stands p.cols s q)) (replicate (suc more) course) ≡ point (cell_of p.cols k)
    counted : tally (replicate (suc more) course) ≡ n
    arrival : course ≡ heading_of k

  run_of : (q : Position) (n : ℕ) (e : Edge) → out p s t q n ≡ Some e → Run q e.to e.counts
  run_of q n e h =
      let l : Leapt p s t q n e = leapt p s t q n e h in
      let x : Point = spot (stands p.cols s q) in
      let w : Lands p s t (spot (stands p.cols s q)) l.course l.steps = lands p s t (spot (stands p.cols s q)) l.course l.steps l.far in
      let a = w.legs.some in
      let b = w.legs.few in
      let whole : suc (l.steps - 1) ≡ l.steps = omega arith in
      record {
        course = l.course;
        more = l.steps - 1;
        walks = run_walks (opens p) l.course (suc (l.steps - 1)) (spot (stands p.cols s q)) (λ i d. jump_legal p (spot (stands p.cols s q)) l.course i (omega arith));
        ends = run_end l.course (suc (l.steps - 1)) (spot (stands p.cols s q)) ∙ ap (λ k. walk l.course k (spot (stands p.cols s q))) whole ∙ ap spot (sym w.there) ∙ ap (λ (d : Edge). point (cell_of p.cols d.to)) (sym l.is);
        counted = tally_run l.course (suc (l.steps - 1)) ∙ ap (many l.course) whole ∙ ap (λ (d : Edge). d.counts) (sym l.is);
        arrival = ap facing (sym w.there) ∙ ap (λ (d : Edge). heading_of d.to) (sym l.is);
      }

  -- a leap has a step
  leap_steps : (q : Position) (n : ℕ) (e : Edge) → out p s t q n ≡ Some e → 1 ≤ steps e.counts
  leap_steps q n e h =
      let l : Leapt p s t q n e = leapt p s t q n e h in
      let w : Lands p s t (spot (stands p.cols s q)) l.course l.steps = lands p s t (spot (stands p.cols s q)) l.course l.steps l.far in
      let a = w.legs.some in
      let b : steps e.counts ≡ steps (many l.course l.steps) = ap (λ (d : Edge). steps d.counts) l.is in
      omega (arith, many_steps l.course l.steps)

  -- the last leap to a place
  last_run : (k : ℕ) (r : Reached) (m : Made (out p s t) marks k r) (q : Position) → r.from ≡ q → Run q k m.edge.counts
  last_run k r m q f = subst (λ j. Run q j m.edge.counts) m.to (subst (λ o. Run o m.edge.to m.edge.counts) f (run_of r.from m.turn m.edge m.is))

  map_bend : (b : Bool) (y : Point) (ys : List Point) (c : Cell) (x : Point) (cs : List Cell) → map point cs ≡ y ∷ ys → point c ≡ x → map point (cond b cs (cs ++ c ∷ [])) ≡ y ∷ cond b ys (ys ++ x ∷ [])
  map_bend true y ys c x cs e f = e
  map_bend false y ys c x cs e f = map-append point cs (c ∷ []) ∙ (λ i. e i ++ f i ∷ [])

  first_leap : (k : ℕ) (r : Reached) → Made (out p s t) marks k r → r.from ≡ Start → Path k r.counts (s ∷ [])
  first_leap k r m f =
      let u : Run Start k m.edge.counts = last_run k r m Start f in
      let b : m.base.counts ≡ none =
      let d : standing marks Start ≡ Done m.base = subst (λ q. standing marks q ≡ Done m.base) f m.done in (cc) in
      record {
        course = u.course;
        others = replicate u.more u.course;
        walks = u.walks;
        ends = u.ends;
        counted = u.counted ∙ sym (none_plus m.edge.counts) ∙ ap (λ z. plus z m.edge.counts) (sym b) ∙ sym m.sum;
        inners = ap (λ z. point s ∷ z) (sym (inner_run (step u.course (point s)) u.course u.more));
        arrival = final_run u.course u.more ∙ u.arrival;
      }

  next_leap : (k j : ℕ) (r : Reached) (cs : List Cell) (m : Made (out p s t) marks k r) → r.from ≡ Place j → Path j m.base.counts cs → Path k r.counts (bend p.cols j k cs)
  next_leap k j r cs m f h =
      let u : Run (Place j) k m.edge.counts = last_run k r m (Place j) f in
      let turn : same (final h.course h.others) u.course ≡ same (heading_of j) (heading_of k) = λ i. same (h.arrival i) (u.arrival i) in
      record {
        course = h.course;
        others = h.others ++ replicate (suc u.more) u.course;
        walks = walk-++ legal (opens p) (point s) (h.course ∷ h.others) (replicate (suc u.more) u.course) h.walks (subst (λ y. Walk legal (opens p) y (replicate (suc u.more) u.course)) (sym h.ends) u.walks);
        ends = end-++ (point s) (h.course ∷ h.others) (replicate (suc u.more) u.course) ∙ ap (λ y. end y (replicate (suc u.more) u.course)) h.ends ∙ u.ends;
        counted = tally-++ (h.course ∷ h.others) (replicate (suc u.more) u.course) ∙ (λ i. plus (h.counted i) (u.counted i)) ∙ sym m.sum;
        inners =
            map_bend (same (heading_of j) (heading_of k)) (point s) (inner (step h.course (point s)) h.course h.others) (cell_of p.cols j) (end (step h.course (point s)) h.others) cs h.inners (sym h.ends) ∙
            ap (λ z. point s ∷ z) (ap (λ b. cond b (inner (step h.course (point s)) h.course h.others) (inner (step h.course (point s)) h.course h.others ++ end (step h.course (point s)) h.others ∷ [])) (sym turn) ∙
            sym (inner-++ (step h.course (point s)) h.course h.others u.course u.more));
        arrival = final-++ h.course h.others u.course u.more ∙ u.arrival;
      }

  done_once : (k : ℕ) (r q : Reached) → marks k ≡ Done r → marks k ≡ Done q → r ≡ q
  done_once k r q d e = cc

  pub path : (k : ℕ) (cs : List Cell) → Trail p.cols s marks k cs → (r : Reached) → marks k ≡ Done r → Path k r.counts cs
  path k cs (direct r d f) q e = subst (λ z. Path k z.counts (s ∷ [])) (done_once k r q d e) (first_leap k r (traced k r d) f)
  path k cs (onward j r ds d f tr) q e =
      let m : Made (out p s t) marks k r = traced k r d in
      let b : marks j ≡ Done m.base = subst (λ o. standing marks o ≡ Done m.base) f m.done in
      subst (λ z. Path k z.counts (bend p.cols j k ds)) (done_once k r q d e) (next_leap k j r ds m f (path j ds tr m.base b))

  -- the corners that are written are those of a route
  pub bent : (k : ℕ) (cs : List Cell) → Trail p.cols s marks k cs → (r : Reached) → marks k ≡ Done r → cell_of p.cols k ≡ t → Bent legal p s t r.counts (cs ++ cell_of p.cols k ∷ [])
  bent k cs tr r d e =
      let h : Path k r.counts cs = path k cs tr r d in
      record {
        headings = h.course ∷ h.others;
        walks = h.walks;
        ends = h.ends ∙ ap point e;
        counted = h.counted;
        bends = map-append point cs (cell_of p.cols k ∷ []) ∙ (λ i. h.inners i ++ sym h.ends i ∷ []) ∙ sym (corners_inner (point s) h.course h.others);
      }

  -- every finished place has its way back: each leap has a step, so the steps run out
  pub trail : (n : ℕ) (k : ℕ) (r : Reached) → marks k ≡ Done r → steps r.counts < n → (cs : List Cell) × Trail p.cols s marks k cs
  trail zero k r d l = absurd (not-suc-le-zero l)
  trail (suc n) k r d l = by r.from refl (λ j f. trail n j (traced k r d).base (subst (λ o. standing marks o ≡ Done (traced k r d).base) f (traced k r d).done) (fewer (traced k r d)))
    where
      fewer : (m : Made (out p s t) marks k r) → steps m.base.counts < n
      fewer m = let a = leap_steps r.from m.turn m.edge m.is in let b = ap steps m.sum in omega arith

      by : (q : Position) → r.from ≡ q → ((j : ℕ) → r.from ≡ Place j → (cs : List Cell) × Trail p.cols s marks j cs) → (cs : List Cell) × Trail p.cols s marks k cs
      by Start f rec = (s ∷ [], direct r d f)
      by (Place j) f rec = let h = rec j f in (bend p.cols j k h.0, onward j r h.0 d f h.1)

  -- each leap has a step, so the steps fall on the way back
  pub falls : Falls marks
  falls k j r b d f e =
      let m : Made (out p s t) marks k r = traced k r d in
      let h : standing marks (Place j) ≡ Done m.base = subst (λ o. standing marks o ≡ Done m.base) f m.done in
      let g : m.base ≡ b = done_once j m.base b h e in
      let a = leap_steps r.from m.turn m.edge m.is in
      let c = ap steps m.sum in
      let u = ap (λ (x : Reached). steps x.counts) g in
      omega arith
