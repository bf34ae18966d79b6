-- A route bends at the end of each of its runs and nowhere else: along a run nothing is added to the corners.
use Rattle.std.proofs.Common.{◌≡◌, ℕ, zero, suc, ◌≤◌, false, cond, List, [], ◌∷◌, ◌++◌, length, replicate, sym, refl, ap, ◌∙◌, inl, inr, not-suc-le-zero, arith}
use Rattle.std.proofs.lemmas.Bool.{cases_Bool, cond_both}
use Rattle.floor.specs.declared.Heading.{Heading}
use Rattle.floor.specs.Tally.{plus}
use Rattle.floor.specs.Plane.{Point, same, step}
use Rattle.floor.specs.Routes.{cells, one, tally, bends, corners}
use Rattle.floor.specs.Jumps.{walk}
use Rattle.floor.specs.Places.{many}
use Rattle.floor.specs.Runs.{Stretch, laid_out, ends_of, sum_of, TurnsFrom, Turning}
use Rattle.floor.specs.Facts.{ByRuns, FromRuns}
use Rattle.floor.proofs.Numbers.{same_is, same_self}
use Rattle.floor.proofs.Walks.{many_none, many_more, tally-++}
use Rattle.floor.proofs.Simple.{cells_steps}

-- ---- along a run

bends_run : (x : Point) (h : Heading) (k : ℕ) (hs : List Heading) → bends x h (replicate k h ++ hs) ≡ bends (walk h k x) h hs
bends_run x h zero hs = refl
bends_run x h (suc k) hs =
    ap (λ b. cond b (bends (step h x) h (replicate k h ++ hs)) (x ∷ bends (step h x) h (replicate k h ++ hs))) (same_self h) ∙ bends_run (step h x) h k hs

pub tally_run : (h : Heading) (k : ℕ) → tally (replicate k h) ≡ many h k
tally_run h zero = sym (many_none h)
tally_run h (suc k) = ap (plus (one h)) (tally_run h k) ∙ many_more h k

pub tally_runs : (rs : List Stretch) → tally (laid_out rs) ≡ sum_of rs
tally_runs [] = refl
tally_runs (r ∷ rs) =
    tally-++ (replicate r.steps r.heading) (laid_out rs) ∙
    (λ i. plus (tally_run r.heading r.steps i) (tally_runs rs i))

-- ---- from run to run

-- one step of a run that has steps, and those left
split : (x : Point) (h g : Heading) (k : ℕ) (hs : List Heading) → same h g ≡ false → 1 ≤ k → bends x h (replicate k g ++ hs) ≡ x ∷ bends (walk g k x) g hs
split x h g zero hs e l = absurd (not-suc-le-zero l)
split x h g (suc k) hs e l =
    ap (λ b. cond b (bends (step g x) g (replicate k g ++ hs)) (x ∷ bends (step g x) g (replicate k g ++ hs))) e ∙
    ap (λ z. x ∷ z) (bends_run (step g x) g k hs)

bends_runs : (x : Point) (h : Heading) (rs : List Stretch) → TurnsFrom h rs → bends x h (laid_out rs) ≡ x ∷ ends_of x rs
bends_runs x h [] t = refl
bends_runs x h (r ∷ rs) t =
    split x h r.heading r.steps (laid_out rs) t.0 t.1 ∙
    ap (λ z. x ∷ z) (bends_runs (walk r.heading r.steps x) r.heading rs t.2)

first : (x : Point) (h : Heading) (k : ℕ) (hs : List Heading) → 1 ≤ k → corners x (replicate k h ++ hs) ≡ x ∷ bends (walk h k x) h hs
first x h zero hs l = absurd (not-suc-le-zero l)
first x h (suc k) hs l = ap (λ z. x ∷ z) (bends_run (step h x) h k hs)

corners_runs : (x : Point) (rs : List Stretch) → Turning rs → corners x (laid_out rs) ≡ x ∷ ends_of x rs
corners_runs x [] t = refl
corners_runs x (r ∷ rs) t =
    first x r.heading r.steps (laid_out rs) t.0 ∙
    ap (λ z. x ∷ z) (bends_runs (walk r.heading r.steps x) r.heading rs t.1)

pub from_runs : (x : Point) (rs : List Stretch) → Turning rs → FromRuns x rs
from_runs x rs t = record { bends = corners_runs x rs t; counted = tally_runs rs }

-- ---- gathering a route's runs

record Gathered (hs : List Heading) : Type 0 where
  runs : List Stretch
  turning : Turning runs
  whole : laid_out runs ≡ hs

one_run : Heading → Stretch
one_run h = record { heading = h; steps = 1 }

more : (h : Heading) (hs : List Heading) (rs : List Stretch) → Turning rs → laid_out rs ≡ hs → Gathered (h ∷ hs)
unfolding one_run
more h hs [] t e = record { runs = one_run h ∷ []; turning = (omega arith, tt); whole = ap (λ z. h ∷ z) e }
more h hs (r ∷ rs) t e = elim (cases_Bool (same h r.heading)) [
  | inl s ↦ record {
    runs = record { heading = r.heading; steps = suc r.steps } ∷ rs;
    turning = (omega arith, t.1);
    whole = λ i. sym (same_is h r.heading s) i ∷ e i;
  }
  | inr d ↦ record { runs = one_run h ∷ (r ∷ rs); turning = (omega arith, (d, t.0, t.1)); whole = ap (λ z. h ∷ z) e }
]

gather : (hs : List Heading) → Gathered hs
gather [] = record { runs = []; turning = tt; whole = refl }
gather (h ∷ hs) = let g : Gathered hs = gather hs in more h hs g.runs g.turning g.whole

few_bends : (x : Point) (h : Heading) (hs : List Heading) → length (bends x h hs) ≤ length (cells x hs)
few_bends x h [] = omega arith
few_bends x h (g ∷ hs) =
    let l = few_bends (step g x) g hs in
    cond_both (same h g) (bends (step g x) g hs) (x ∷ bends (step g x) g hs) (λ zs. length zs ≤ length (cells x (g ∷ hs))) (λ e. omega arith) (λ e. omega arith)

few_corners : (x : Point) (hs : List Heading) → length (corners x hs) ≤ length (cells x hs)
few_corners x [] = omega arith
few_corners x (h ∷ hs) = let l = few_bends (step h x) h hs in omega arith

pub by_runs : (x : Point) (hs : List Heading) → ByRuns x hs
by_runs x hs =
    let g : Gathered hs = gather hs in
    record {
      runs = g.runs;
      turning = g.turning;
      whole = g.whole;
      bends = ap (corners x) (sym g.whole) ∙ corners_runs x g.runs g.turning;
      counted = ap tally (sym g.whole) ∙ tally_runs g.runs;
      few = let l = few_corners x hs in let e = cells_steps x hs in omega arith;
    }
