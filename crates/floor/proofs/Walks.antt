-- Routes join, turn round and grow, whatever the laying, if it is fair.
use Rattle.std.proofs.Common.{◌≡◌, ℕ, suc, Bool, true, false, cond, List, [], ◌∷◌, ◌++◌, sym, refl, ap, ◌∙◌, subst, arith}
use Rattle.floor.specs.declared.Counts.{Counts}
use Rattle.floor.specs.declared.Heading.{Heading}
use Rattle.floor.specs.Tally.{counts, none, plus, steps}
use Rattle.floor.specs.Plane.{Point, opposite, diagonal, step}
use Rattle.floor.specs.Routes.{end, one, tally, Laying, Walk, Laid, Grows, Fair}
use Rattle.floor.specs.Places.{many}
use Rattle.floor.proofs.Plane.{undo, opposite_diagonal}

-- ---- counts

pub pair : {a a' b b' : ℕ} → a ≡ a' → b ≡ b' → counts a b ≡ counts a' b'
pair p q = λ i. counts (p i) (q i)

pub plus_assoc : (x y z : Counts) → plus (plus x y) z ≡ plus x (plus y z)
plus_assoc x y z = pair (omega arith) (omega arith)

pub plus_comm : (x y : Counts) → plus x y ≡ plus y x
plus_comm x y = pair (omega arith) (omega arith)

pub plus_none : (x : Counts) → plus x none ≡ x
plus_none x = pair (omega arith) (omega arith)

pub none_plus : (x : Counts) → plus none x ≡ x
none_plus x = pair (omega arith) (omega arith)

-- no steps of a heading, one more, and how many they are
pub many_none : (h : Heading) → many h 0 ≡ none
many_none h = both (diagonal h)
  where
    both : (b : Bool) → cond b (counts 0 0) (counts 0 0) ≡ none
    both true = refl
    both false = refl

pub many_more : (h : Heading) (k : ℕ) → plus (one h) (many h k) ≡ many h (suc k)
many_more h k = both (diagonal h)
  where
    both : (b : Bool) → plus (cond b (counts 0 1) (counts 1 0)) (cond b (counts 0 k) (counts k 0)) ≡ cond b (counts 0 (suc k)) (counts (suc k) 0)
    both true = pair (omega arith) (omega arith)
    both false = pair (omega arith) (omega arith)

pub many_steps : (h : Heading) (k : ℕ) → steps (many h k) ≡ k
many_steps h k = both (diagonal h)
  where
    both : (b : Bool) → steps (cond b (counts 0 k) (counts k 0)) ≡ k
    both true = omega arith
    both false = omega arith

-- ---- joining

pub end-++ : (x : Point) (hs gs : List Heading) → end x (hs ++ gs) ≡ end (end x hs) gs
end-++ x [] gs = refl
end-++ x (h ∷ hs) gs = end-++ (step h x) hs gs

pub tally-++ : (hs gs : List Heading) → tally (hs ++ gs) ≡ plus (tally hs) (tally gs)
tally-++ [] gs = sym (none_plus (tally gs))
tally-++ (h ∷ hs) gs = ap (plus (one h)) (tally-++ hs gs) ∙ sym (plus_assoc (one h) (tally hs) (tally gs))

-- ---- turning round

-- the same cells the other way
pub back : List Heading → List Heading
back [] = []
back (h ∷ hs) = back hs ++ opposite h ∷ []

one_opposite : (h : Heading) → one (opposite h) ≡ one h
one_opposite h = ap (λ b. cond b (counts 0 1) (counts 1 0)) (opposite_diagonal h)

pub tally_back : (hs : List Heading) → tally (back hs) ≡ tally hs
unfolding back
tally_back [] = refl
tally_back (h ∷ hs) =
    tally-++ (back hs) (opposite h ∷ []) ∙ ap (λ n. plus n (plus (one (opposite h)) none)) (tally_back hs) ∙
    ap (plus (tally hs)) (plus_none (one (opposite h)) ∙ one_opposite h) ∙ plus_comm (tally hs) (one h)

pub end_back : (x : Point) (hs : List Heading) → end (end x hs) (back hs) ≡ x
unfolding back
end_back x [] = refl
end_back x (h ∷ hs) =
    end-++ (end (step h x) hs) (back hs) (opposite h ∷ []) ∙ ap (step (opposite h)) (end_back (step h x) hs) ∙ undo h x

module _ (may : Laying) (free : Point → Bool) where
  pub walk-++ : (x : Point) (hs gs : List Heading) → Walk may free x hs → Walk may free (end x hs) gs → Walk may free x (hs ++ gs)
  walk-++ x [] gs v w = w
  walk-++ x (h ∷ hs) gs v w = (v.0, walk-++ (step h x) hs gs v.1 w)

  pub joined : {s m t : Point} {a b : Counts} → Laid may free s m a → Laid may free m t b → Laid may free s t (plus a b)
  joined {s} {m} {t} {a} {b} p q = record {
    headings = p.headings ++ q.headings;
    starts = p.starts;
    walks = walk-++ s p.headings q.headings p.walks (subst (λ x. Walk may free x q.headings) (sym p.ends) q.walks);
    ends = end-++ s p.headings q.headings ∙ ap (λ x. end x q.headings) p.ends ∙ q.ends;
    counted = tally-++ p.headings q.headings ∙ (λ i. plus (p.counted i) (q.counted i));
  }

  module _ (fair : Fair may) where
    pub end_open : (x : Point) (hs : List Heading) → free x ≡ true → Walk may free x hs → free (end x hs) ≡ true
    end_open x [] f w = f
    end_open x (h ∷ hs) f w = end_open (step h x) hs (fair.arrives free x h w.0) w.1

    pub walk_back : (x : Point) (hs : List Heading) → Walk may free x hs → Walk may free (end x hs) (back hs)
    unfolding back
    walk_back x [] w = tt
    walk_back x (h ∷ hs) w =
        walk-++ (end (step h x) hs) (back hs) (opposite h ∷ []) (walk_back (step h x) hs w.1)
        (subst (λ y. Walk may free y (opposite h ∷ [])) (sym (end_back (step h x) hs)) (fair.back free x h w.0, tt))

    pub turned_round : {s t : Point} {n : Counts} → Laid may free s t n → Laid may free t s n
    turned_round {s} {t} {n} p =
        subst (λ x. Laid may free x s n) p.ends (record {
          headings = back p.headings;
          starts = end_open s p.headings p.starts p.walks;
          walks = walk_back s p.headings p.walks;
          ends = end_back s p.headings;
          counted = tally_back p.headings ∙ p.counted;
        })

module _ (may : Laying) (fair : Fair may) (free more : Point → Bool) (grow : Grows free more) where
  walk_grows : (x : Point) (hs : List Heading) → Walk may free x hs → Walk may more x hs
  walk_grows x [] w = tt
  walk_grows x (h ∷ hs) w = (fair.stays free more grow x h w.0, walk_grows (step h x) hs w.1)

  pub grown : {s t : Point} {n : Counts} → Laid may free s t n → Laid may more s t n
  grown {s} {t} {n} p = record { headings = p.headings; starts = grow s p.starts; walks = walk_grows s p.headings p.walks; ends = p.ends; counted = p.counted }
