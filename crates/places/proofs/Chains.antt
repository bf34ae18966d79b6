-- The chains of the graph are the chains of successors.
use Rattle.std.proofs.Common.{◌≡◌, ℕ, ◌*◌, ◌<◌, Bool, true, false, cond, Some, None, Option, sym, refl, ap, ◌∙◌, subst, arith}
use Rattle.std.specs.Option.{option_map}
use Rattle.floor.specs.declared.Cell.{Cell}
use Rattle.floor.specs.declared.Counts.{Counts}
use Rattle.floor.specs.declared.Heading.{Heading}
use Rattle.floor.specs.Tally.{plus}
use Rattle.floor.specs.Plane.{Point, point, number, heading}
use Rattle.floor.specs.Plans.{Plan, opens, legal}
use Rattle.floor.specs.Routes.{Laid}
use Rattle.floor.specs.Jumps.{walk}
use Rattle.floor.specs.Places.{start, place, spot, place_number, many, goes_on, successor, begin}
use Rattle.floor.specs.Places as floor
use Rattle.floor.proofs.Numbers.{numbered, number_below}
use Rattle.floor.proofs.Cells.{Found, found}
use Rattle.floor.proofs.Legal.{legal_fair}
use Rattle.floor.proofs.Walks.{end_open}
use Rattle.pruning.specs.Claims.{LegalLeap}
use Rattle.pruning.proofs.Pruning.{successors_are_leaps}
use Rattle.search.specs.declared.graph.Position.{Position}
use Rattle.search.specs.declared.graph.Position.TheVariants.{Start, Place}
use Rattle.search.specs.declared.graph.Edge.{Edge}
use Rattle.search.specs.Chain as search
use Rattle.places.specs.Leaps.{cell_of, heading_of, stands, cell_at, leap, leap_in, out}
use Rattle.places.proofs.Numbers.{cell_back, heading_back, number_fits}

module _ (p : Plan) (s t : Cell) where
  -- an edge, taken apart: a heading in which the position goes on, and the steps to the successor
  pub record Leapt (q : Position) (n : ℕ) (e : Edge) : Type 0 where
    pub course : Heading
    pub steps : ℕ
    pub on : goes_on p (stands p.cols s q) course ≡ true
    pub far : successor p (point t) (spot (stands p.cols s q)) course ≡ Some steps
    pub is : e ≡ leap p.cols (spot (stands p.cols s q)) course steps
    pub numbered_so : heading n ≡ Some course

  pub leapt : (q : Position) (n : ℕ) (e : Edge) → out p s t q n ≡ Some e → Leapt q n e
  leapt q n e h = by (heading n) refl h
    where
      x : Point
      x = spot (stands p.cols s q)

      to : (g : Heading) (b : Bool) (o : Option ℕ) → heading n ≡ Some g → goes_on p (stands p.cols s q) g ≡ b → successor p (point t) (spot (stands p.cols s q)) g ≡ o →
          cond b (option_map (leap p.cols (spot (stands p.cols s q)) g) o) None ≡ Some e → Leapt q n e
      to g true (Some k) a b c d = record { course = g; steps = k; on = b; far = c; is = (cc); numbered_so = a }
      to g true None a b c d = absurd (let z : ◌≡◌ {A = ℕ} 0 1 = cc in omega arith)
      to g false o a b c d = absurd (let z : ◌≡◌ {A = ℕ} 0 1 = cc in omega arith)

      by : (o : Option Heading) → heading n ≡ o → elim o as (λ _. Option Edge) [ Some g ↦ leap_in p t (spot (stands p.cols s q)) (goes_on p (stands p.cols s q)) g | None ↦ None ] ≡ Some e → Leapt q n e
      by (Some g) a d = to g (goes_on p (stands p.cols s q) g) (successor p (point t) (spot (stands p.cols s q)) g) a refl refl d
      by None a d = absurd (let z : ◌≡◌ {A = ℕ} 0 1 = cc in omega arith)

  -- where a leap leads: to an open cell, known by its place's number
  pub record Lands (x : Point) (h : Heading) (k : ℕ) : Type 0 where
    pub legs : LegalLeap p x h k
    pub cell : Found p (walk h k x)
    pub there : place (point (cell_of p.cols (leap p.cols x h k).to)) (heading_of (leap p.cols x h k).to) ≡ place (walk h k x) h
    pub fits : (leap p.cols x h k).to < 8 * (p.rows * p.cols)

  pub lands : (x : Point) (h : Heading) (k : ℕ) → successor p (point t) x h ≡ Some k → Lands x h k
  lands x h k e =
      let l : LegalLeap p x h k = successors_are_leaps p (point t) x h k e in
      let r : Laid legal (opens p) x (walk h k x) (many h k) = l.route in
      let o : opens p (walk h k x) ≡ true = subst (λ y. opens p y ≡ true) r.ends (end_open legal (opens p) legal_fair x r.headings r.starts r.walks) in
      let f : Found p (walk h k x) = found p (walk h k x) o in
      let c : cell_at (walk h k x) ≡ f.cell = ap cell_at (sym f.is_cell) in
      let back : cell_of p.cols (place_number p.cols (cell_at (walk h k x)) h) ≡ f.cell =
      ap (λ z. cell_of p.cols (place_number p.cols z h)) c ∙ cell_back p.cols f.cell h f.in_cols in
      record {
        legs = l;
        cell = f;
        there = λ i. place ((ap point back ∙ f.is_cell) i) (heading_back p.cols (cell_at (walk h k x)) h i);
        fits = subst (λ z. place_number p.cols z h < 8 * (p.rows * p.cols)) (sym c) (number_fits p.cols f.cell h p.rows f.in_rows f.in_cols);
      }

  pub to_floor : {q : Position} {n : Counts} → search.Chain (out p s t) q n → floor.Chain p (point s) (point t) (stands p.cols s q) n
  to_floor search.start = begin
  to_floor (search.step q c n e ch l h) =
      let z : Leapt q n e = leapt q n e h in
      let w : Lands (spot (stands p.cols s q)) z.course z.steps = lands (spot (stands p.cols s q)) z.course z.steps z.far in
      subst (λ (d : Edge). floor.Chain p (point s) (point t) (stands p.cols s (Place d.to)) (plus c d.counts)) (sym z.is)
      (subst (λ at. floor.Chain p (point s) (point t) at (plus c (many z.course z.steps))) (sym w.there)
      (floor.leap (to_floor ch) z.course z.steps z.on z.far))

  pub record Numbered (at : floor.Position) (n : Counts) : Type 0 where
    pub position : Position
    pub lies : stands p.cols s position ≡ at
    pub chain : search.Chain (out p s t) position n

  pub from_floor : {at : floor.Position} {n : Counts} → floor.Chain p (point s) (point t) at n → Numbered at n
  from_floor begin = record { position = Start; lies = refl; chain = search.start }
  from_floor (floor.leap {at} {n} ch h k g f) =
      let r : Numbered at n = from_floor ch in
      let q : Position = r.position in
      let on : goes_on p (stands p.cols s q) h ≡ true = ap (λ a. goes_on p a h) r.lies ∙ g in
      let far : successor p (point t) (spot (stands p.cols s q)) h ≡ Some k = ap (λ a. successor p (point t) (spot a) h) r.lies ∙ f in
      let e : Edge = leap p.cols (spot (stands p.cols s q)) h k in
      let w : Lands (spot (stands p.cols s q)) h k = lands (spot (stands p.cols s q)) h k far in
      let here : leap_in p t (spot (stands p.cols s q)) (goes_on p (stands p.cols s q)) h ≡ Some e =
      ap (λ b. cond b (option_map (leap p.cols (spot (stands p.cols s q)) h) (successor p (point t) (spot (stands p.cols s q)) h)) None) on ∙
      ap (λ o. option_map (leap p.cols (spot (stands p.cols s q)) h) o) far in
      let edge : out p s t q (number h) ≡ Some e = ap (λ o. elim o as (λ _. Option Edge) [ Some j ↦ leap_in p t (spot (stands p.cols s q)) (goes_on p (stands p.cols s q)) j | None ↦ None ]) (numbered h) ∙ here in
      record {
        position = Place e.to;
        lies = w.there ∙ ap (λ a. place (walk h k (spot a)) h) r.lies;
        chain = search.step q n (number h) e r.chain (number_below h) edge;
      }
