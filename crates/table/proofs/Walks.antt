-- Mending in one table: walks that settle seeds one after another, and the turns of a walk.
use Rattle.std.proofs.Common.{◌≡◌, ℕ, suc, ◌+◌, ◌<◌, ◌≤◌, true, false, List, [], ◌∷◌, ◌++◌, length, get_or, drop, Some, None, Option, sym, refl, ap, ◌∙◌, subst, arith}
use Rattle.std.proofs.lemmas.List.{drop_more}
use Rattle.std.proofs.Math.ListN.{drop_of_length-le}
use Rattle.floor.specs.declared.Heading.TheVariants.{North}
use Rattle.floor.specs.declared.Cell.{Cell}
use Rattle.floor.specs.declared.Heading.{Heading}
use Rattle.floor.specs.declared.Side.TheVariants.{Left, Right}
use Rattle.floor.specs.Plane.{Point, point, turn, opposite, diagonal, step}
use Rattle.floor.specs.Steps.{Stepped}
use Rattle.source.specs.declared.extents.Size.{Size}
use Rattle.table.specs.Equations.{HoldsIn, Seed, seed, Mends, Written, seeds, seeds_of}
use Rattle.table.specs.Tables.{Stays, MendsOn, seed_at, seeds_around}
use Rattle.table.specs.declared.mending.Table.{Table}
use Rattle.table.proofs.Places.{Inside}
use Rattle.table.proofs.Backwards.{mends_none, mends_on, mends_beside, mends_settled, mends_off, off_end, Unseen, mends_back, mends_seen, ahead_of, ahead_less}

pub none : (t : Table) (ss : List Seed) → MendsOn t ss t ss
none t ss = record { stays = record { size = refl; memory = refl }; mends = mends_none _ _ _ ss }

pub on : {a b c : Table} {ss ts us : List Seed} → MendsOn a ss b ts → MendsOn b ts c us → MendsOn a ss c us
on {a} {b} {c} {ss} {ts} {us} p q = record {
  stays = record { size = q.stays.size ∙ p.stays.size; memory = q.stays.memory ∙ p.stays.memory };
  mends =
      mends_on _ _ a.numbers.now b.numbers.now c.numbers.now ss ts us p.mends
      (subst (λ (s : Size). Mends s.rows s.cols b.numbers.now ts c.numbers.now us) p.stays.size q.mends);
}

-- other seeds wait meanwhile
pub first : {a b : Table} {ss : List Seed} → MendsOn a ss b [] → (us : List Seed) → MendsOn a (ss ++ us) b us
first {a} {b} {ss} p us = record { stays = p.stays; mends = mends_beside _ _ a.numbers.now b.numbers.now ss [] us p.mends }

-- one after another
pub both : {a b c : Table} {ss ts : List Seed} → MendsOn a ss b [] → MendsOn b ts c [] → MendsOn a (ss ++ ts) c []
both {ts = ts} p q = on (first p ts) q

-- a seed where a step leads is that of the cell there, or of none
pub led : (t : Table) (c : Cell) (k g h : Heading) (d : Option Cell) → k ≡ g → Stepped c k d → MendsOn t (seed (step g (point c)) h ∷ []) t (seed_at d h)
led t c k g h d e at = subst (λ q. MendsOn t (seed (step q (point c)) h ∷ []) t (seed_at d h)) e (by d at)
  where
    by : (d : Option Cell) → Stepped c k d → MendsOn t (seed (step k (point c)) h ∷ []) t (seed_at d h)
    by (Some d) at = subst (λ x. MendsOn t (seed x h ∷ []) t (seed (point d) h ∷ [])) at (none t _)
    by None at = record { stays = record { size = refl; memory = refl }; mends = mends_off _ _ _ _ h (off_end _ _ t.size.few c k at) }

-- walking from the cell where a step leads, if there is one
pub looked : {a b : Table} (c : Cell) {k g h : Heading} (d : Option Cell) → k ≡ g → Stepped c k d → MendsOn a (seed_at d h) b [] → MendsOn a (seed (step g (point c)) h ∷ []) b []
looked {a} {b} c {k} {g} {h} d e at m = on (led a c k g h d e at) m

-- a label that was right
pub stayed : (a b : Table) (c : Cell) (h : Heading) → Stays a b → b.numbers.now ≡ a.numbers.now → HoldsIn a.size.rows a.size.cols a.numbers.now (point c) h → MendsOn a (seed (point c) h ∷ []) b []
stayed a b c h stays e k = record {
  stays = stays;
  mends = subst (λ l. Mends a.size.rows a.size.cols a.numbers.now (seed (point c) h ∷ []) l []) (sym e) (mends_settled _ _ a.numbers.now (point c) h k);
}

-- ---- a label that was written

module _ (a b : Table) (c : Cell) (h : Heading) (stays : Stays a b) (written : Written a.size.rows a.size.cols a.numbers.now c h b.numbers.now) where
  -- its seed goes a step back
  pub back : Unseen a.size.rows a.size.cols a.numbers.now b.numbers.now c h a.fits written → MendsOn a (seed (point c) h ∷ []) b (seed (step (opposite h) (point c)) h ∷ [])
  back q = record { stays = stays; mends = mends_back _ _ a.numbers.now b.numbers.now c h a.fits written q }

  -- once both headings that look at it are followed back, its own goes on
  pub followed : (left right : Heading) → left ≡ turn Left h → right ≡ turn Right h → (l r : Table) →
      MendsOn b (seed (step (opposite left) (point c)) left ∷ []) l [] → MendsOn l (seed (step (opposite right) (point c)) right ∷ []) r [] →
      MendsOn a (seed (point c) h ∷ []) r (seed (step (opposite h) (point c)) h ∷ [])
  followed left right e f l r p q =
      let from : Heading → Seed = λ g. seed (step (opposite g) (point c)) g in
      let seen : MendsOn a (seed (point c) h ∷ []) b (from (turn Left h) ∷ from (turn Right h) ∷ from h ∷ []) =
      record { stays = stays; mends = mends_seen _ _ a.numbers.now b.numbers.now c h a.fits written } in
      let p' : MendsOn b (from (turn Left h) ∷ []) l [] = subst (λ g. MendsOn b (from g ∷ []) l []) e p in
      let q' : MendsOn l (from (turn Right h) ∷ []) r [] = subst (λ g. MendsOn l (from g ∷ []) r []) f q in
      on seen (on (first p' (from (turn Right h) ∷ from h ∷ [])) (first q' (from h ∷ [])))

-- ---- walks end

-- how far a heading leads from a cell, if there is one
abbrev pub ahead : Size → Heading → Option Cell → ℕ
ahead s k (Some c) = suc (ahead_of s.rows s.cols k c)
ahead s k None = 0

pub less : (a b : Table) → Stays a b → (k g : Heading) → k ≡ g → (at : Option Cell) (c : Cell) (d : Option Cell) → at ≡ Some c → Inside a.size.rows a.size.cols c → Stepped c k d →
    ahead b.size g d < ahead a.size g at
less a b stays k g e at c d is i led-to =
    subst (λ q. ahead b.size q d < ahead a.size q at) e (subst (λ o. ahead b.size k d < ahead a.size k o) (sym is) (subst (λ (s : Size). ahead s k d < suc (ahead_of a.size.rows a.size.cols k c)) (sym stays.size) (by d led-to)))
  where
    by : (d : Option Cell) → Stepped c k d → ahead a.size k d < suc (ahead_of a.size.rows a.size.cols k c)
    by None _ = omega arith
    by (Some d) s = omega (arith, ahead_less a.size.rows a.size.cols k c d i s)

-- ---- the seeds of a heading

module _ (x : Point) (h back left right : Heading) (e : back ≡ opposite h) (f : left ≡ turn Left back) (g : right ≡ turn Right back) where
  abbrev pub near : List Seed
  near = (seed x h ∷ []) ++ seeds_around x (back ∷ left ∷ right ∷ []) h

  pub slanted_seeds : diagonal h ≡ true → near ≡ seeds x h
  unfolding seeds
  slanted_seeds d = rw (g, f, e, d) refl

  pub straight_seeds : diagonal h ≡ false → (k l : Heading) → k ≡ turn Left left → l ≡ turn Right right → near ++ seeds_around x (k ∷ l ∷ []) h ≡ seeds x h
  unfolding seeds
  straight_seeds d k l u v = rw (v, u, g, f, e, d) refl

-- ---- seeds of a list of headings, each in its turn

module _ (of : Heading → List Seed) (all : List Heading → List Seed) (more : (h : Heading) (hs : List Heading) → all (h ∷ hs) ≡ of h ++ all hs) where
  one_of : {a b c : Table} {ss : List Seed} (hs : List Heading) (i : ℕ) (d : Heading) → i < length hs → MendsOn a ss b (all (drop i hs)) → MendsOn b (of (get_or hs i d)) c [] →
      MendsOn a ss c (all (drop (i + 1) hs))
  one_of {a} {b} {c} {ss} hs i d f m n =
      let rest = all (drop (i + 1) hs) in
      on (subst (λ ts. MendsOn a ss b ts) (ap all (drop_more hs i d f) ∙ more (get_or hs i d) (drop (i + 1) hs)) m) (first n rest)

pub next_around : {a b c : Table} {ss : List Seed} (x : Point) (h : Heading) (hs : List Heading) (i : ℕ) → i < length hs → MendsOn a ss b (seeds_around x (drop i hs) h) →
    MendsOn b (seed (step (get_or hs i North) x) h ∷ []) c [] → MendsOn a ss c (seeds_around x (drop (i + 1) hs) h)
next_around x h hs i = one_of (λ k. seed (step k x) h ∷ []) (λ ks. seeds_around x ks h) (λ k ks. refl) hs i North

pub next_of : {a b c : Table} {ss : List Seed} (x : Point) (hs : List Heading) (i : ℕ) → i < length hs → MendsOn a ss b (seeds_of x (drop i hs)) → MendsOn b (seeds x (get_or hs i North)) c [] →
    MendsOn a ss c (seeds_of x (drop (i + 1) hs))
unfolding seeds_of
next_of x hs i = one_of (seeds x) (seeds_of x) (λ h hs. refl) hs i North

-- and none is left at the end
pub all_of : {a b : Table} {ss : List Seed} (x : Point) (hs : List Heading) (i : ℕ) → length hs ≤ i → MendsOn a ss b (seeds_of x (drop i hs)) → MendsOn a ss b []
unfolding seeds_of
all_of {a} {b} {ss} x hs i e m = subst (λ ks. MendsOn a ss b (seeds_of x ks)) (drop_of_length-le hs e) m
