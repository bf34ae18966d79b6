-- Each turn of the loop goes one place back on the way, which is there, since the place is finished.
use Rattle.std.proofs.Common.{◌≡◌, ℕ, ◌+◌, ◌<◌, ◌≤◌, List, [], ◌∷◌, ◌++◌, length, get_or, take, drop, set, sym, ap, ◌∙◌, subst, arith, length-set}
use Rattle.std.proofs.lemmas.List.{take_more_set, drop-set-lt, length-take-le}
use Rattle.std.proofs.lemmas.Bool.{not-true, not-false}
use Rattle.floor.specs.declared.Cell.{Cell}
use Rattle.floor.specs.Tally.{steps}
use Rattle.floor.specs.Plane.{same}
use Rattle.floor.specs.Plans.{Plan}
use Rattle.search.specs.declared.entry.Entry.{Entry}
use Rattle.search.specs.declared.entry.Reached.{Reached}
use Rattle.search.specs.declared.graph.Position.TheVariants.{Start, Place}
use Rattle.search.specs.Mark.{Done, marks, way, blank}
use Rattle.search.proofs.Marks.{standing_inside, done_way}
use Rattle.places.specs.Leaps.{cell_of, heading_of}
use Rattle.lengths.specs.Questions.{places}
use Rattle.lengths.specs.Trail.{Trail, bend, Falls}
use Rattle.lengths.proofs.Writing.{Writing, trail_done, back_home, back_on, set_out, room, bends_at, goes_straight, turned_round}
use Rattle.lengths.proofs.drawing.write_corners.Goals as goal
use Rattle.lengths.proofs.drawing.write_corners.Goals.{then-turns, else-turns}

-- a finished place's entry lies in the list
inside : (es : List Entry) (k : ℕ) (r : Reached) → marks es k ≡ Done r → k < length es
inside es k r d = standing_inside es (Place k) r d

-- from a place on the way to the one before it
record Before (cols : ℕ) (s : Cell) (es : List Entry) (cs : List Cell) (last : Cell) (at back count : ℕ) (old new : List Cell) (w : Writing cols s (marks es) cs last at count old new) : Type 0 where
  cells : List Cell
  trail : Trail cols s (marks es) back cells
  bent : w.left ≡ bend cols back at cells
  within : back < length es
  less : steps (way (get_or es back blank)).counts < steps (way (get_or es at blank)).counts

before : (cols : ℕ) (s : Cell) (es : List Entry) → Falls (marks es) → (cs : List Cell) (last : Cell) (at back count : ℕ) (old new : List Cell) (w : Writing cols s (marks es) cs last at count old new) →
    (way (get_or es at blank)).from ≡ Place back → Before cols s es cs last at back count old new w
before cols s es falls cs last at back count old new w e =
    let r = trail_done w.trail in
    let here : way (get_or es at blank) ≡ r.0 = done_way es at r.0 r.1 in
    let f : r.0.from ≡ Place back = sym (ap (λ (x : Reached). x.from) here) ∙ e in
    let h = back_on back r.0 w.trail r.1 f in
    let b = trail_done h.1 in
    let there : way (get_or es back blank) ≡ b.0 = done_way es back b.0 b.1 in
    let l = falls at back r.0 b.0 r.1 f b.1 in
    let u = ap (λ (x : Reached). steps x.counts) here in
    let v = ap (λ (x : Reached). steps x.counts) there in
    record { cells = h.0; trail = h.1; bent = h.2; within = inside es back b.0 b.1; less = omega arith }

-- what is asked, by the columns and the number of places that the code reads
module _ (p : Plan) (s : Cell) (es : List Entry) (w n : ℕ) (ew : w ≡ p.cols) (en : n ≡ places p) where
  by_code : {k : ℕ} {cs : List Cell} → Trail p.cols s (marks (take (places p) es)) k cs → Trail w s (marks (take n es)) k cs
  by_code {k} {cs} t = subst (λ v. Trail v s (marks (take n es)) k cs) (sym ew) (subst (λ m. Trail p.cols s (marks (take m es)) k cs) (sym en) t)

  asked : (k l : ℕ) → (cs : List Cell) × Trail p.cols s (marks (take (places p) es)) k cs × (length cs + 1 ≤ l) → (cs : List Cell) × Trail w s (marks (take n es)) k cs × (length cs + 1 ≤ l)
  asked k l h = (h.0, by_code h.1, h.2)

  falling : Falls (marks (take (places p) es)) → Falls (marks (take n es))
  falling h = subst (λ m. Falls (marks (take m es))) (sym en) h

pub bounds-entries-place : goal.bounds-entries-place
bounds-entries-place g c =
    let es = take c.places.result c.args.work.now.entries.now in
    let p = asked (g.S.JumpSource.meaning c.args.source.now) c.args.start c.args.work.now.entries.now c.size-cols.result.cols c.places.result c.size-cols.ensures.1 c.places.ensures c.args.place (length c.args.corners.now) c.requires.way in
    let r = trail_done p.1 in
    inside es c.args.place r.0 r.1

pub loop-from-init : goal.loop-from-init
loop-from-init g c =
    let es = take c.places.result c.args.work.now.entries.now in
    let cols = c.size-cols.result.cols in (
      ap (λ (x : Reached). x.from) c.reached-from.ensures,
      λ cs t. set_out cols c.args.start (marks es) cs (cell_of cols c.args.place) (set c.args.corners.now 0 c.cell_of.result) c.args.place
          (take_more_set c.args.corners.now 0 c.cell_of.result (let l = c.requires.way.2 in omega arith) ∙ ap (λ z. z ∷ []) c.cell_of.ensures) t,
    )

pub bounds-entries-back : goal.bounds-entries-back
bounds-entries-back g c =
    let es = take c.places.result c.args.work.now.entries.now in
    let p = asked (g.S.JumpSource.meaning c.args.source.now) c.args.start c.args.work.now.entries.now c.size-cols.result.cols c.places.result c.size-cols.ensures.1 c.places.ensures c.args.place (length c.args.corners.now) c.requires.way in
    let falls = falling (g.S.JumpSource.meaning c.args.source.now) c.args.start c.args.work.now.entries.now c.size-cols.result.cols c.places.result c.size-cols.ensures.1 c.places.ensures c.requires.falls in
    let cols = c.size-cols.result.cols in
    let s = c.args.start in
    let at = c.loop-from.at in
    let n = c.loop-from.count in
    let xs = c.loop-from.corners in
    let last = cell_of cols c.args.place in
    let old = set c.args.corners.now 0 c.cell_of.result in
    (before cols s es falls p.0 last at c.in-Place.back n old xs (c.loop-from.invariant.1 p.0 p.1) (sym c.loop-from.invariant.0 ∙ c.in-Place.is)).within

pub bounds-corners-count : goal.bounds-corners-count
bounds-corners-count g c =
    let es = take c.places.result c.args.work.now.entries.now in
    let p = asked (g.S.JumpSource.meaning c.args.source.now) c.args.start c.args.work.now.entries.now c.size-cols.result.cols c.places.result c.size-cols.ensures.1 c.places.ensures c.args.place (length c.args.corners.now) c.requires.way in
    let falls = falling (g.S.JumpSource.meaning c.args.source.now) c.args.start c.args.work.now.entries.now c.size-cols.result.cols c.places.result c.size-cols.ensures.1 c.places.ensures c.requires.falls in
    let cols = c.size-cols.result.cols in
    let s = c.args.start in
    let at = c.loop-from.at in
    let n = c.loop-from.count in
    let xs = c.loop-from.corners in
    let last = cell_of cols c.args.place in
    let old = set c.args.corners.now 0 c.cell_of.result in
    room cols s (marks es) p.0 last old at n xs (simp length-set p.2) (c.loop-from.invariant.1 p.0 p.1)

pub loop-from-smaller : goal.loop-from-smaller
loop-from-smaller g c =
    let es = take c.places.result c.args.work.now.entries.now in
    let p = asked (g.S.JumpSource.meaning c.args.source.now) c.args.start c.args.work.now.entries.now c.size-cols.result.cols c.places.result c.size-cols.ensures.1 c.places.ensures c.args.place (length c.args.corners.now) c.requires.way in
    let falls = falling (g.S.JumpSource.meaning c.args.source.now) c.args.start c.args.work.now.entries.now c.size-cols.result.cols c.places.result c.size-cols.ensures.1 c.places.ensures c.requires.falls in
    let cols = c.size-cols.result.cols in
    let s = c.args.start in
    let at = c.loop-from.at in
    let n = c.loop-from.count in
    let xs = c.loop-from.corners in
    let last = cell_of cols c.args.place in
    let old = set c.args.corners.now 0 c.cell_of.result in
    (before cols s es falls p.0 last at c.in-Place.back n old xs (c.loop-from.invariant.1 p.0 p.1) (sym c.loop-from.invariant.0 ∙ c.in-Place.is)).less

pub loop-from-preserved : goal.loop-from-preserved
loop-from-preserved g c =
    let es = take c.places.result c.args.work.now.entries.now in
    let p = asked (g.S.JumpSource.meaning c.args.source.now) c.args.start c.args.work.now.entries.now c.size-cols.result.cols c.places.result c.size-cols.ensures.1 c.places.ensures c.args.place (length c.args.corners.now) c.requires.way in
    let falls = falling (g.S.JumpSource.meaning c.args.source.now) c.args.start c.args.work.now.entries.now c.size-cols.result.cols c.places.result c.size-cols.ensures.1 c.places.ensures c.requires.falls in
    let cols = c.size-cols.result.cols in
    let s = c.args.start in
    let at = c.loop-from.at in
    let n = c.loop-from.count in
    let xs = c.loop-from.corners in
    let last = cell_of cols c.args.place in
    let old = set c.args.corners.now 0 c.cell_of.result in
    let k = c.in-Place.back in (
      ap (λ (x : Reached). x.from) c.reached-from-in-Place.ensures,
      λ cs t.
          let w : Writing cols s (marks es) cs last at n old xs = c.loop-from.invariant.1 cs t in
          let b : Before cols s es cs last at k n old xs w = before cols s es falls cs last at k n old xs w (sym c.loop-from.invariant.0 ∙ c.in-Place.is) in
          elim c.if-turns.branch [
            | then-turns v ↦
                let l : n < length xs = room cols s (marks es) p.0 last old at n xs (simp length-set p.2) (c.loop-from.invariant.1 p.0 p.1) in
                subst (λ (z : List Cell). Writing cols s (marks es) cs last k c.if-turns.count old z) (sym v.corners-is)
                (subst (λ (m : ℕ). Writing cols s (marks es) cs last k m old (set xs n v.cell_of-then-turns.result)) (sym v.count-is)
                (subst (λ (x : Cell). Writing cols s (marks es) cs last k (n + 1) old (set xs n x)) (sym v.cell_of-then-turns.ensures)
                (bends_at cols s (marks es) cs last old at k n xs l w b.cells b.trail b.bent (not-true (same (heading_of k) (heading_of at)) (sym v.if-turns.ensures)))))
            | else-turns v ↦
                subst (λ (z : List Cell). Writing cols s (marks es) cs last k c.if-turns.count old z) (sym v.corners-is)
                (subst (λ (m : ℕ). Writing cols s (marks es) cs last k m old xs) (sym v.count-is)
                (goes_straight cols s (marks es) cs last old at k n xs w b.cells b.trail b.bent (not-false (same (heading_of k) (heading_of at)) (sym v.if-turns.ensures))))
          ],
    )

pub bounds-corners-count-2 : goal.bounds-corners-count-2
bounds-corners-count-2 g c =
    let es = take c.places.result c.args.work.now.entries.now in
    let p = asked (g.S.JumpSource.meaning c.args.source.now) c.args.start c.args.work.now.entries.now c.size-cols.result.cols c.places.result c.size-cols.ensures.1 c.places.ensures c.args.place (length c.args.corners.now) c.requires.way in
    let falls = falling (g.S.JumpSource.meaning c.args.source.now) c.args.start c.args.work.now.entries.now c.size-cols.result.cols c.places.result c.size-cols.ensures.1 c.places.ensures c.requires.falls in
    let cols = c.size-cols.result.cols in
    let s = c.args.start in
    let at = c.loop-from.at in
    let n = c.loop-from.count in
    let xs = c.loop-from.corners in
    let last = cell_of cols c.args.place in
    let old = set c.args.corners.now 0 c.cell_of.result in
    room cols s (marks es) p.0 last old at n xs (simp length-set p.2) (c.loop-from.invariant.1 p.0 p.1)

pub slice_bounds-reverse-end : goal.slice_bounds-reverse-end
slice_bounds-reverse-end g c =
    let es = take c.places.result c.args.work.now.entries.now in
    let p = asked (g.S.JumpSource.meaning c.args.source.now) c.args.start c.args.work.now.entries.now c.size-cols.result.cols c.places.result c.size-cols.ensures.1 c.places.ensures c.args.place (length c.args.corners.now) c.requires.way in
    let falls = falling (g.S.JumpSource.meaning c.args.source.now) c.args.start c.args.work.now.entries.now c.size-cols.result.cols c.places.result c.size-cols.ensures.1 c.places.ensures c.requires.falls in
    let cols = c.size-cols.result.cols in
    let s = c.args.start in
    let at = c.loop-from.at in
    let n = c.loop-from.count in
    let xs = c.loop-from.corners in
    let last = cell_of cols c.args.place in
    let old = set c.args.corners.now 0 c.cell_of.result in
    let l = room cols s (marks es) p.0 last old at n xs (simp length-set p.2) (c.loop-from.invariant.1 p.0 p.1) in
    simp length-set (omega arith)

pub slice_bounds-reverse-end-2 : goal.slice_bounds-reverse-end-2
slice_bounds-reverse-end-2 g c =
    let es = take c.places.result c.args.work.now.entries.now in
    let p = asked (g.S.JumpSource.meaning c.args.source.now) c.args.start c.args.work.now.entries.now c.size-cols.result.cols c.places.result c.size-cols.ensures.1 c.places.ensures c.args.place (length c.args.corners.now) c.requires.way in
    let falls = falling (g.S.JumpSource.meaning c.args.source.now) c.args.start c.args.work.now.entries.now c.size-cols.result.cols c.places.result c.size-cols.ensures.1 c.places.ensures c.requires.falls in
    let cols = c.size-cols.result.cols in
    let s = c.args.start in
    let at = c.loop-from.at in
    let n = c.loop-from.count in
    let xs = c.loop-from.corners in
    let last = cell_of cols c.args.place in
    let old = set c.args.corners.now 0 c.cell_of.result in
    let l = room cols s (marks es) p.0 last old at n xs (simp length-set p.2) (c.loop-from.invariant.1 p.0 p.1) in
    sym (length-take-le (n + 1) (set xs n s) (simp length-set (omega arith)))

pub returns : goal.returns
returns g c cs t =
    let es = take c.places.result c.args.work.now.entries.now in
    let p = asked (g.S.JumpSource.meaning c.args.source.now) c.args.start c.args.work.now.entries.now c.size-cols.result.cols c.places.result c.size-cols.ensures.1 c.places.ensures c.args.place (length c.args.corners.now) c.requires.way in
    let q = g.S.JumpSource.meaning c.args.source.now in
    let cols = c.size-cols.result.cols in
    let s = c.args.start in
    let at = c.loop-from.at in
    let n = c.loop-from.count in
    let xs = c.loop-from.corners in
    let last = cell_of cols c.args.place in
    let old = set c.args.corners.now 0 c.cell_of.result in
    let l : n < length xs = room cols s (marks es) p.0 last old at n xs (simp length-set p.2) (c.loop-from.invariant.1 p.0 p.1) in
    let w : Writing cols s (marks es) cs last at n old xs = c.loop-from.invariant.1 cs (by_code q s c.args.work.now.entries.now cols c.places.result c.size-cols.ensures.1 c.places.ensures t) in
    let r = trail_done w.trail in
    let here : way (get_or es at blank) ≡ r.0 = done_way es at r.0 r.1 in
    let f : r.0.from ≡ Start = sym (ap (λ (x : Reached). x.from) here) ∙ sym c.loop-from.invariant.0 ∙ c.in_default.is in
    let h = turned_round cols s (marks es) cs last old at n xs l w (back_home r.0 w.trail r.1 f) in (
      h.0,
      ap (λ z. z ++ drop (n + 1) (set xs n s)) c.reverse.ensures.after ∙ h.1 ∙
          (λ i. (cs ++ cell_of (c.size-cols.ensures.1 i) c.args.place ∷ []) ++ drop-set-lt (n + 1) c.args.corners.now 0 c.cell_of.result (omega arith) i),
    )
