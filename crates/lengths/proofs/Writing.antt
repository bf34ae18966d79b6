-- What has been written of the corners while the way is walked back: turned round, it ends the list of all corners.
use Rattle.std.proofs.Common.{◌≡◌, ℕ, ◌+◌, ◌<◌, ◌≤◌, Bool, true, false, cond, List, [], ◌∷◌, ◌++◌, reverse, length, take, drop, set, sym, refl, ap, ◌∙◌, subst, append_assoc, arith, length-append, length-set}
use Rattle.std.proofs.lemmas.List.{reverse-append, take_more_set, drop-set-lt, drop-drop}
use Rattle.floor.specs.declared.Cell.{Cell}
use Rattle.floor.specs.Plane.{same}
use Rattle.search.specs.declared.entry.Reached.{Reached}
use Rattle.search.specs.declared.graph.Position.{Position}
use Rattle.search.specs.declared.graph.Position.TheVariants.{Start, Place}
use Rattle.search.specs.Mark.{Mark, Unmet, Waits, Done}
use Rattle.places.specs.Leaps.{cell_of, heading_of}
use Rattle.lengths.specs.Trail.{Trail, direct, onward, bend}

-- where a finished place was reached from
from_of : Mark → Position
from_of Unmet = Start
from_of (Waits r) = r.from
from_of (Done r) = r.from

pub record Writing (cols : ℕ) (s : Cell) (marks : ℕ → Mark) (cs : List Cell) (last : Cell) (at count : ℕ) (old new : List Cell) : Type 0 where
  pub left : List Cell
  pub trail : Trail cols s marks at left
  pub split : cs ++ last ∷ [] ≡ left ++ reverse (take count new)
  pub many : length left + count ≡ length cs + 1
  pub past : drop count new ≡ drop count old
  pub whole : length new ≡ length old

-- a way back has its start at least, and its place is finished
pub trail_some : {cols : ℕ} {s : Cell} {marks : ℕ → Mark} {k : ℕ} {cs : List Cell} → Trail cols s marks k cs → 1 ≤ length cs
trail_some (direct r d f) = omega arith
trail_some {cols} {s} {marks} {k} (onward j r cs d f t) = by (same (heading_of j) (heading_of k)) (trail_some t)
  where
    by : (b : Bool) → 1 ≤ length cs → 1 ≤ length (cond b cs (cs ++ cell_of cols j ∷ []))
    by true l = l
    by false l = omega (arith, length-append cs (cell_of cols j ∷ []))

pub trail_done : {cols : ℕ} {s : Cell} {marks : ℕ → Mark} {k : ℕ} {cs : List Cell} → Trail cols s marks k cs → (r : Reached) × (marks k ≡ Done r)
trail_done (direct r d f) = (r, d)
trail_done (onward j r cs d f t) = (r, d)

-- the way back is one way
module _ {cols : ℕ} {s : Cell} {marks : ℕ → Mark} where
  pub back_home : {k : ℕ} {cs : List Cell} (r : Reached) → Trail cols s marks k cs → marks k ≡ Done r → r.from ≡ Start → cs ≡ s ∷ []
  unfolding from_of
  back_home r (direct q d f) e g = refl
  back_home r (onward j q ds d f tr) e g = absurd (let h : q.from ≡ r.from = ap from_of (sym d ∙ e) in let z : ◌≡◌ {A = ℕ} 0 1 = cc in omega arith)

  pub back_on : {k : ℕ} {cs : List Cell} (j : ℕ) (r : Reached) → Trail cols s marks k cs → marks k ≡ Done r → r.from ≡ Place j → (ds : List Cell) × Trail cols s marks j ds × (cs ≡ bend cols j k ds)
  unfolding from_of
  back_on j r (direct q d f) e g = absurd (let h : q.from ≡ r.from = ap from_of (sym d ∙ e) in let z : ◌≡◌ {A = ℕ} 0 1 = cc in omega arith)
  back_on {k} j r (onward i q ds d f tr) e g =
      let h : q.from ≡ r.from = ap from_of (sym d ∙ e) in
      let v : i ≡ j = cc in
      (ds, subst (λ o. Trail cols s marks o ds) v tr, ap (λ o. bend cols o k ds) v)

turned : (xs : List Cell) (x : Cell) → reverse (xs ++ x ∷ []) ≡ x ∷ reverse xs
turned xs x = reverse-append xs (x ∷ [])

module _ (cols : ℕ) (s : Cell) (marks : ℕ → Mark) (cs : List Cell) (last : Cell) (old : List Cell) where
  abbrev W : ℕ → ℕ → List Cell → Type 0
  W at count new = Writing cols s marks cs last at count old new

  pub set_out : (k : ℕ) → take 1 old ≡ last ∷ [] → Trail cols s marks k cs → W k 1 old
  set_out k l t = record { left = cs; trail = t; split = ap (λ z. cs ++ reverse z) (sym l); many = refl; past = refl; whole = refl }

  pub room : (at count : ℕ) (new : List Cell) → length cs + 1 ≤ length old → W at count new → count < length new
  room at count new l w = let a = trail_some w.trail in omega (arith, w.many, w.whole)

  -- one corner more
  put : (at k count : ℕ) (new : List Cell) (x : Cell) (ds : List Cell) → count < length new → (w : W at count new) → w.left ≡ ds ++ x ∷ [] → Trail cols s marks k ds → W k (count + 1) (set new count x)
  put at k count new x ds l w e t = record {
    left = ds;
    trail = t;
    split = w.split ∙ ap (λ z. z ++ reverse (take count new)) e ∙ append_assoc ds (x ∷ []) (reverse (take count new)) ∙ ap (λ z. ds ++ z) (sym (ap reverse (take_more_set new count x l) ∙ turned (take count new) x));
    many = let a = ap length e in let b = length-append ds (x ∷ []) in omega (arith, w.many);
    past = drop-set-lt (count + 1) new count x (omega arith) ∙ sym (drop-drop 1 count new) ∙ ap (drop 1) w.past ∙ drop-drop 1 count old;
    whole = length-set new count x ∙ w.whole;
  }

  pub bends_at : (at k count : ℕ) (new : List Cell) → count < length new → (w : W at count new) → (ds : List Cell) → Trail cols s marks k ds → w.left ≡ bend cols k at ds →
      same (heading_of k) (heading_of at) ≡ false → W k (count + 1) (set new count (cell_of cols k))
  bends_at at k count new l w ds t e f = put at k count new (cell_of cols k) ds l w (e ∙ ap (λ b. cond b ds (ds ++ cell_of cols k ∷ [])) f) t

  pub goes_straight : (at k count : ℕ) (new : List Cell) → (w : W at count new) → (ds : List Cell) → Trail cols s marks k ds → w.left ≡ bend cols k at ds →
      same (heading_of k) (heading_of at) ≡ true → W k count new
  goes_straight at k count new w ds t e f =
      let g : w.left ≡ ds = e ∙ ap (λ b. cond b ds (ds ++ cell_of cols k ∷ [])) f in
      record { left = ds; trail = t; split = w.split ∙ ap (λ z. z ++ reverse (take count new)) g; many = omega (arith, ap length g, w.many); past = w.past; whole = w.whole }

  -- at the start, the last corner is written and the list turned round
  pub turned_round : (at count : ℕ) (new : List Cell) → count < length new → (w : W at count new) → w.left ≡ s ∷ [] →
      (count + 1 ≡ length cs + 1) × (reverse (take (count + 1) (set new count s)) ++ drop (count + 1) (set new count s) ≡ (cs ++ last ∷ []) ++ drop (count + 1) old)
  turned_round at count new l w e = (
    omega (arith, ap length e, w.many),
    (λ i. (ap reverse (take_more_set new count s l) ∙ turned (take count new) s ∙ sym (w.split ∙ ap (λ z. z ++ reverse (take count new)) e)) i
        ++ (drop-set-lt (count + 1) new count s (omega arith) ∙ sym (drop-drop 1 count new) ∙ ap (drop 1) w.past ∙ drop-drop 1 count old) i),
  )
