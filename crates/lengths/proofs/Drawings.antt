-- After a search the way back is there, and turned round it is a cheapest route, with no more corners than the plan has cells.
use Rattle.std.proofs.Common.{◌≡◌, ℕ, suc, ◌+◌, ◌*◌, ◌≤◌, true, not, List, [], ◌∷◌, ◌++◌, length, take, sym, ap, ◌∙◌, arith, length-append}
use Rattle.std.proofs.lemmas.List.{length-map}
use Rattle.std.proofs.lemmas.Bool.{and_parts}
use Rattle.floor.specs.declared.Cell.{Cell}
use Rattle.floor.specs.declared.Counts.{Counts}
use Rattle.floor.specs.Tally.{steps}
use Rattle.floor.specs.Plane.{point}
use Rattle.floor.specs.Plans.{Plan, Sized, is_open, legal}
use Rattle.floor.specs.Routes.{corners}
use Rattle.floor.proofs.Legal.{legal_fair}
use Rattle.floor.proofs.Runs.{by_runs}
use Rattle.rate.specs.declared.Comparison.{Comparison}
use Rattle.rate.specs.Laws.{Lawful}
use Rattle.cheapest.specs.Cheapest.{Cheapest}
use Rattle.cheapest.proofs.Rivals.{rivals}
use Rattle.search.specs.declared.entry.Entry.{Entry}
use Rattle.search.specs.Mark.{marks, reached}
use Rattle.search.specs.Search as search
use Rattle.places.specs.Leaps.{cell_of, out, same_cell, goal}
use Rattle.places.proofs.Numbers.{same_cell_is}
use Rattle.lengths.specs.Questions.{places}
use Rattle.lengths.specs.Answers.{Bent}
use Rattle.lengths.specs.Trail.{Trail, Falls}
use Rattle.lengths.proofs.Told.{found}
use Rattle.lengths.proofs.Trails.{trail, bent, falls}

module _ (order : Counts → Counts → Comparison) (law : Lawful order) (p : Plan) (z : Sized p) (s t : Cell) (ne : s ≡ t → ⊥) (o : is_open p s ≡ true) (es : List Entry) (k : ℕ) (c : Counts)
    (f : search.Cheapest (out p s t) order (goal p s t) (marks (take (places p) es)) k c) where
  best : Cheapest order legal p s t c
  best = found order law p z s t ne o (marks (take (places p) es)) k c f

  on_target : cell_of p.cols k ≡ t
  on_target = same_cell_is (cell_of p.cols k) t (and_parts (not (same_cell s t)) (same_cell (cell_of p.cols k) t) f.hit).1

  pub turned : (cs : List Cell) → Trail p.cols s (marks (take (places p) es)) k cs → Bent legal p s t c (cs ++ cell_of p.cols k ∷ [])
  turned cs tr = bent p s t (marks (take (places p) es)) f.made k cs tr (reached c f.from) f.there on_target

  few : (cs : List Cell) → Bent legal p s t c cs → length cs ≤ p.rows * p.cols
  few cs b =
      let a = (by_runs (point s) b.headings).few in
      let d : length cs ≡ length (corners (point s) b.headings) = sym (length-map cs point) ∙ ap length b.bends in
      let e = ap steps b.counted in
      let g = (rivals order law legal legal_fair).simple p s t c z best in
      omega arith

  -- what writing the corners asks for
  pub record Ready (l : ℕ) : Type 0 where
    pub way : (cs : List Cell) × Trail p.cols s (marks (take (places p) es)) k cs × (length cs + 1 ≤ l)
    pub falls : Falls (marks (take (places p) es))

  pub ready : (l : ℕ) → p.rows * p.cols ≤ l → Ready l
  ready l room =
      let h = trail p s t (marks (take (places p) es)) f.made (suc (steps c)) k (reached c f.from) f.there (omega arith) in
      let a = few (h.0 ++ cell_of p.cols k ∷ []) (turned h.0 h.1) in
      let b = length-append h.0 (cell_of p.cols k ∷ []) in
      record { way = (h.0, h.1, omega arith); falls = falls p s t (marks (take (places p) es)) f.made }
