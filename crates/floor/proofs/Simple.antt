-- Every route has one below it that visits no cell twice: where a cell comes again, leave out what lies between.
use Rattle.std.proofs.Common.{◌≡◌, ℕ, ◌+◌, ◌*◌, ◌<◌, ◌≤◌, Bool, true, ◌⊎◌, List, [], ◌∷◌, map, length, pos, nat_abs, sym, refl, ap, ◌∙◌, subst, inl, inr, arith}
use lib.IntN.{ℤ_discrete}
use Rattle.std.proofs.lemmas.Nat.{mul-add-lt}
use Rattle.std.proofs.lemmas.List.{length-map}
use Rattle.floor.specs.declared.Counts.{Counts}
use Rattle.floor.specs.declared.Heading.{Heading}
use Rattle.floor.specs.Tally.{steps}
use Rattle.floor.specs.Plane.{Point, step}
use Rattle.floor.specs.Plans.{Plan, opens}
use Rattle.floor.specs.Routes.{end, cells, tally, Apart, Distinct, Laying, Walk, Fair}
use Rattle.floor.proofs.Plane.{at}
use Rattle.floor.proofs.Cells.{found, same_pair}
use Rattle.floor.proofs.Walks.{many_steps}
use Rattle.floor.proofs.Pigeonhole.{Below, few_below}

pub point_dec : (x y : Point) → (x ≡ y) ⊎ (x ≡ y → ⊥)
point_dec x y = elim (ℤ_discrete x.row y.row) [
  | yes p ↦ elim (ℤ_discrete x.col y.col) [
    | yes q ↦ inl (at p q)
    | no q ↦ inr (λ e. q (ap (λ z. z.col) e))
  ]
  | no p ↦ inr (λ e. p (ap (λ z. z.row) e))
]

-- ---- cutting

module _ (may : Laying) (free : Point → Bool) where
  -- a walk from x on distinct cells that ends at t, with no more steps of either kind than n
  pub record Cut (x t : Point) (n : Counts) : Type 0 where
    pub headings : List Heading
    pub walks : Walk may free x headings
    pub ends : end x headings ≡ t
    pub distinct : Distinct (cells x headings)
    pub straights : (tally headings).straight ≤ n.straight
    pub diagonals : (tally headings).diagonal ≤ n.diagonal

  -- x is one of the cells of a walk from y, which then goes on from x; or it is none of them
  look : (x y : Point) (hs : List Heading) → Walk may free y hs → Distinct (cells y hs) → Cut x (end y hs) (tally hs) ⊎ Apart x (cells y hs)
  look x y [] w d = elim (point_dec x y) [
    | inl e ↦ inl (record { headings = []; walks = tt; ends = e; distinct = (tt, tt); straights = omega arith; diagonals = omega arith })
    | inr e ↦ inr (e, tt)
  ]
  look x y (h ∷ hs) w d = elim (point_dec x y) [
    | inl e ↦ inl (record {
      headings = h ∷ hs;
      walks = subst (λ z. Walk may free z (h ∷ hs)) (sym e) w;
      ends = ap (λ z. end z (h ∷ hs)) e;
      distinct = subst (λ z. Distinct (cells z (h ∷ hs))) (sym e) d;
      straights = omega arith;
      diagonals = omega arith;
    })
    | inr e ↦ elim (look x (step h y) hs w.1 d.1) [
      | inl c ↦ inl (record { headings = c.headings; walks = c.walks; ends = c.ends; distinct = c.distinct; straights = omega (arith, c.straights); diagonals = omega (arith, c.diagonals) })
      | inr a ↦ inr (e, a)
    ]
  ]

  pub cut : (x : Point) (hs : List Heading) → Walk may free x hs → Cut x (end x hs) (tally hs)
  cut x [] w = record { headings = []; walks = tt; ends = refl; distinct = (tt, tt); straights = omega arith; diagonals = omega arith }
  cut x (h ∷ hs) w =
      let r : Cut (step h x) (end (step h x) hs) (tally hs) = cut (step h x) hs w.1 in
      elim (look x (step h x) r.headings r.walks r.distinct) [
        | inl c ↦ record {
          headings = c.headings;
          walks = c.walks;
          ends = c.ends ∙ r.ends;
          distinct = c.distinct;
          straights = omega (arith, c.straights, r.straights);
          diagonals = omega (arith, c.diagonals, r.diagonals);
        }
        | inr a ↦ record {
          headings = h ∷ r.headings;
          walks = (w.0, r.walks);
          ends = r.ends;
          distinct = (a, r.distinct);
          straights = omega (arith, r.straights);
          diagonals = omega (arith, r.diagonals);
        }
      ]

-- ---- counting cells

-- a route has one cell more than it has steps
pub cells_steps : (x : Point) (hs : List Heading) → length (cells x hs) ≡ steps (tally hs) + 1
cells_steps x [] = refl
cells_steps x (h ∷ hs) = let e = cells_steps (step h x) hs in let o = many_steps h 1 in omega arith

abbrev pub All : (Point → Type 0) → List Point → Type 0
All P [] = Unit {0}
All P (x ∷ xs) = P x × All P xs

-- the number of a point in a plan with so many columns
seat : ℕ → Point → ℕ
seat w x = nat_abs x.row * w + nat_abs x.col

seats_fit : (p : Plan) (x : Point) → opens p x ≡ true → seat p.cols x < p.rows * p.cols
unfolding seat
seats_fit p x o =
    let s = found p x o in
    subst (λ z. nat_abs z.row * p.cols + nat_abs z.col < p.rows * p.cols) s.is_cell (omega (arith, mul-add-lt s.cell.row p.cols s.cell.col p.rows s.in_rows s.in_cols))

seats_apart : (p : Plan) (x y : Point) → opens p x ≡ true → opens p y ≡ true → seat p.cols x ≡ seat p.cols y → x ≡ y
unfolding seat
seats_apart p x y o q e =
    let s = found p x o in
    let t = found p y q in
    let v = same_pair p.cols s.cell.row s.cell.col t.cell.row t.cell.col s.in_cols t.in_cols (ap (seat p.cols) s.is_cell ∙ e ∙ ap (seat p.cols) (sym t.is_cell)) in
    sym s.is_cell ∙ at (ap pos v.0) (ap pos v.1) ∙ t.is_cell

module _ (p : Plan) where
  abbrev Open : Point → Type 0
  Open x = opens p x ≡ true

  seats_below : (xs : List Point) → All Open xs → Below (p.rows * p.cols) (map (seat p.cols) xs)
  seats_below [] a = tt
  seats_below (x ∷ xs) a = (seats_fit p x a.0, seats_below xs a.1)

  seats_off : (x : Point) (xs : List Point) → Open x → All Open xs → Apart x xs → Apart (seat p.cols x) (map (seat p.cols) xs)
  seats_off x [] o a n = tt
  seats_off x (y ∷ ys) o a n = (λ e. n.0 (seats_apart p x y o a.0 e), seats_off x ys o a.1 n.1)

  seats_distinct : (xs : List Point) → All Open xs → Distinct xs → Distinct (map (seat p.cols) xs)
  seats_distinct [] a d = tt
  seats_distinct (x ∷ xs) a d = (seats_off x xs a.0 a.1 d.0, seats_distinct xs a.1 d.1)

  -- distinct open cells are at most as many as the plan has
  pub few_cells : (xs : List Point) → All Open xs → Distinct xs → length xs ≤ p.rows * p.cols
  few_cells xs a d = subst (λ n. n ≤ p.rows * p.cols) (length-map xs (seat p.cols)) (few_below (p.rows * p.cols) (map (seat p.cols) xs) (seats_distinct xs a d) (seats_below xs a))

  pub all_open : (may : Laying) → Fair may → (x : Point) (hs : List Heading) → Open x → Walk may (opens p) x hs → All Open (cells x hs)
  all_open may fair x [] o w = (o, tt)
  all_open may fair x (h ∷ hs) o w = (o, all_open may fair (step h x) hs (fair.arrives (opens p) x h w.0) w.1)
