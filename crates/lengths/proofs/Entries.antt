-- What the entries of a search say of places by cell and heading.
use Rattle.std.proofs.Common.{◌≡◌, ℕ, ◌*◌, ◌/◌, ◌%◌, ◌<◌, ◌≤◌, true, false, not, List, length, get_or, sym, refl, ap, ◌∙◌, subst, arith}
use Rattle.std.proofs.lemmas.Bool.{both_ways, and_parts, ltb-true}
use Rattle.floor.specs.declared.Cell.{Cell}
use Rattle.floor.specs.declared.Counts.{Counts}
use Rattle.floor.specs.declared.Heading.{Heading}
use Rattle.floor.specs.Plane.{point}
use Rattle.floor.specs.Plans.{Plan, inside, is_open}
use Rattle.floor.specs.Places.{place, place_number}
use Rattle.floor.specs.Places as floor
use Rattle.floor.proofs.Cells.{cell_known}
use Rattle.rate.specs.declared.Comparison.{Comparison}
use Rattle.rate.specs.declared.Comparison.TheVariants.{Cheaper}
use Rattle.pruning.specs.Claims.{Stands}
use Rattle.pruning.proofs.Pruning.{chains_stand_on_open_cells}
use Rattle.search.specs.declared.entry.Entry.{Entry}
use Rattle.search.specs.declared.entry.Reached.{Reached}
use Rattle.search.specs.declared.entry.State.{State}
use Rattle.search.specs.declared.entry.State.TheVariants.{Unseen, Waiting, Finished}
use Rattle.search.specs.Mark.{Unmet, Done, is_done, mark, marked, way, blank, marks, count, finished, finishes}
use Rattle.search.specs.Chain as chain
use Rattle.search.specs.Search as search
use Rattle.search.proofs.Marks.{count_none}
use Rattle.places.specs.Leaps.{cell_of, heading_of, out, goal, same_cell}
use Rattle.places.proofs.Numbers.{cell_back, heading_back, number_back, position_known, same_cell_is}
use Rattle.places.proofs.Chains.{to_floor, Numbered, from_floor}
use Rattle.lengths.specs.declared.answers.Measured.{Measured}
use Rattle.lengths.specs.Searched.{open_cells, CheapestChain, Searched}
use Rattle.lengths.proofs.Counting.{count_le, eightfold}

-- an entry is marked finished exactly if its place is done, and then it carries its counts
done : (e : Entry) → is_done (mark e) ≡ true → mark e ≡ Done (way e)
done e h = by e.state refl h
  where
    by : (x : State) → e.state ≡ x → is_done (marked x (way e)) ≡ true → marked e.state (way e) ≡ Done (way e)
    by Unseen a h = absurd (both_ways false refl h)
    by Waiting a h = absurd (both_ways false refl h)
    by Finished a h = ap (λ x. marked x (way e)) a

pub finished_done : (es : List Entry) (k : ℕ) → finished es k ≡ true → marks es k ≡ Done (way (get_or es k blank))
unfolding finished marks
finished_done es k h = done (get_or es k blank) h

pub done_finished : (es : List Entry) (k : ℕ) (r : Reached) → marks es k ≡ Done r → finished es k ≡ true
unfolding finished
done_finished es k r e = ap is_done e

-- entries that are all unmet have no finished one
pub none_finished : (es : List Entry) → ((k : ℕ) → marks es k ≡ Unmet) → (k : ℕ) → finished es k ≡ false
unfolding finished
none_finished es h k = ap is_done (h k)

module _ (order : Counts → Counts → Comparison) (p : Plan) (s t : Cell) (es : List Entry) where
  module _ (k : ℕ) (c : Counts) (f : search.Cheapest (out p s t) order (goal p s t) (marks es) k c) where
    -- a finished place is a place on an open cell
    on_open : (j : ℕ) → finished es j ≡ true → is_open p (cell_of p.cols j) ≡ true
    on_open j h =
        let ch : floor.Chain p (point s) (point t) (place (point (cell_of p.cols j)) (heading_of j)) (way (get_or es j blank)).counts =
        to_floor p s t (f.chained j (way (get_or es j blank)) (finished_done es j h)) in
        let w : Stands p (point (cell_of p.cols j)) (way (get_or es j blank)).counts = chains_stand_on_open_cells p (point s) (point t) (point (cell_of p.cols j)) (heading_of j) (way (get_or es j blank)).counts ch in
        subst (λ (x : Cell). is_open p x ≡ true) (cell_known w.there) w.is_free

    pub few_finished : length es ≡ 8 * (p.rows * p.cols) → finishes es ≤ 8 * open_cells p
    unfolding finishes
    few_finished e =
        let a = count_le (finished es) (λ j. is_open p (record { row = j / 8 / p.cols; col = j / 8 % p.cols })) (8 * (p.rows * p.cols)) (λ j l. on_open j) in
        let b = eightfold (λ j. is_open p (record { row = j / p.cols; col = j % p.cols })) (p.rows * p.cols) in
        subst (λ n. count (finished es) n ≤ 8 * open_cells p) (sym e) (omega arith)

    -- the place of a cell and a heading, by its number
    pub cheapest_entry : (x : Cell) (h : Heading) → inside p x ≡ true → finished es (place_number p.cols x h) ≡ true → CheapestChain order p s t x h (way (get_or es (place_number p.cols x h) blank)).counts
    cheapest_entry x h i fin =
        let j = place_number p.cols x h in
        let n = way (get_or es j blank) in
        let col : x.col < p.cols = ltb-true x.col p.cols (and_parts _ _ i).1 in
        let here : place (point (cell_of p.cols j)) (heading_of j) ≡ place (point x) h = λ a. place (point (cell_back p.cols x h col a)) (heading_back p.cols x h a) in
        let d : marks es j ≡ Done n = finished_done es j fin in
        record {
          chain = subst (λ at. floor.Chain p (point s) (point t) at n.counts) here (to_floor p s t (f.chained j n d));
          least = λ m ch.
              let q : Numbered p s t (place (point x) h) m = from_floor p s t ch in
              f.best j n m d (subst (λ u. chain.Chain (out p s t) u m) (position_known p.cols s q.position x h q.lies) q.chain);
        }

    -- a place on the target is finished
    pub target_entry : (h : Heading) × (finished es (place_number p.cols t h) ≡ true)
    target_entry =
        let g = and_parts (not (same_cell s t)) (same_cell (cell_of p.cols k) t) f.hit in
        let there : place_number p.cols t (heading_of k) ≡ k = ap (λ x. place_number p.cols x (heading_of k)) (sym (same_cell_is (cell_of p.cols k) t g.1)) ∙ number_back p.cols k in
        (heading_of k, subst (λ j. finished es j ≡ true) (sym there) (done_finished es k (record { counts = c; from = f.from }) f.there))

    -- and so is every place with a cheaper chain
    pub cheaper_entry : (x : Cell) (h : Heading) (m : Counts) → floor.Chain p (point s) (point t) (place (point x) h) m → order m c ≡ Cheaper → finished es (place_number p.cols x h) ≡ true
    cheaper_entry x h m ch less =
        let q : Numbered p s t (place (point x) h) m = from_floor p s t ch in
        let r = f.passed (place_number p.cols x h) m (subst (λ u. chain.Chain (out p s t) u m) (position_known p.cols s q.position x h q.lies) q.chain) less in
        done_finished es (place_number p.cols x h) r.0 r.1

    pub searched : (s ≡ t → ⊥) → length es ≡ 8 * (p.rows * p.cols) → (n : Measured) → n.counts ≡ c → n.finished ≡ finishes es → Searched order p s t es n
    searched ne full n same all = record {
      counted = all;
      few = subst (λ k. k ≤ 8 * open_cells p) (sym all) (few_finished full);
      at_once = λ e. absurd (ne e);
      cheapest = cheapest_entry;
      target = λ d. target_entry;
      cheaper = λ d x h m ch less. cheaper_entry x h m ch (ap (order m) (sym same) ∙ less);
    }

  -- where start and target are one cell, nothing is finished
  pub idle : s ≡ t → ((k : ℕ) → marks es k ≡ Unmet) → (n : Measured) → n.finished ≡ 0 → Searched order p s t es n
  unfolding finishes
  idle e h n z = record {
    counted = z ∙ count_none (finished es) (length es) (none_finished es h);
    few = subst (λ k. k ≤ 8 * open_cells p) (sym z) (omega arith);
    at_once = λ _. z;
    cheapest = λ c g i f. absurd (both_ways (finished es (place_number p.cols c g)) (none_finished es h (place_number p.cols c g)) f);
    target = λ ne. absurd (ne e);
    cheaper = λ ne. absurd (ne e);
  }
