-- The corners of a route that grows at its end: a run of the last heading moves the last corner on, a run of another adds one.
use Rattle.std.proofs.Common.{◌≡◌, ℕ, zero, suc, Bool, true, false, cond, List, [], ◌∷◌, ◌++◌, replicate, refl, ap, ◌∙◌}
use Rattle.floor.specs.declared.Heading.{Heading}
use Rattle.floor.specs.Plane.{Point, same, step}
use Rattle.floor.specs.Routes.{end, bends, corners}
use Rattle.floor.proofs.Numbers.{same_self}

-- the corners after x, reached with the heading g, but for the last cell
pub inner : Point → Heading → List Heading → List Point
inner x g [] = []
inner x g (h ∷ hs) = cond (same g h) (inner (step h x) h hs) (x ∷ inner (step h x) h hs)

-- the last heading of a route that begins with g
pub final : Heading → List Heading → Heading
final g [] = g
final g (h ∷ hs) = final h hs

either : {A : Type 0} (b : Bool) (x : A) (ys zs : List A) → cond b (ys ++ zs) (x ∷ (ys ++ zs)) ≡ cond b ys (x ∷ ys) ++ zs
either true x ys zs = refl
either false x ys zs = refl

bends_inner : (x : Point) (g : Heading) (hs : List Heading) → bends x g hs ≡ inner x g hs ++ end x hs ∷ []
unfolding inner
bends_inner x g [] = refl
bends_inner x g (h ∷ hs) =
    ap (λ zs. cond (same g h) zs (x ∷ zs)) (bends_inner (step h x) h hs) ∙ either (same g h) x (inner (step h x) h hs) (end (step h x) hs ∷ [])

-- all corners but the last
pub corners_inner : (x : Point) (g : Heading) (hs : List Heading) → corners x (g ∷ hs) ≡ (x ∷ inner (step g x) g hs) ++ end x (g ∷ hs) ∷ []
corners_inner x g hs = ap (λ zs. x ∷ zs) (bends_inner (step g x) g hs)

pub inner_run : (x : Point) (h : Heading) (k : ℕ) → inner x h (replicate k h) ≡ []
unfolding inner
inner_run x h zero = refl
inner_run x h (suc k) = ap (λ b. cond b (inner (step h x) h (replicate k h)) (x ∷ inner (step h x) h (replicate k h))) (same_self h) ∙ inner_run (step h x) h k

pub final_run : (h : Heading) (k : ℕ) → final h (replicate k h) ≡ h
unfolding final
final_run h zero = refl
final_run h (suc k) = final_run h k

pub final-++ : (g : Heading) (hs : List Heading) (h : Heading) (k : ℕ) → final g (hs ++ replicate (suc k) h) ≡ h
unfolding final
final-++ g [] h k = final_run h k
final-++ g (j ∷ hs) h k = final-++ j hs h k

swapped : {A : Type 0} (a b : Bool) (x : A) (ys zs : List A) → cond a (cond b ys (ys ++ zs)) (x ∷ cond b ys (ys ++ zs)) ≡ cond b (cond a ys (x ∷ ys)) (cond a ys (x ∷ ys) ++ zs)
swapped true true x ys zs = refl
swapped true false x ys zs = refl
swapped false true x ys zs = refl
swapped false false x ys zs = refl

pub inner-++ : (x : Point) (g : Heading) (hs : List Heading) (h : Heading) (k : ℕ) →
    inner x g (hs ++ replicate (suc k) h) ≡ cond (same (final g hs) h) (inner x g hs) (inner x g hs ++ end x hs ∷ [])
unfolding inner final
inner-++ x g [] h k = ap (λ zs. cond (same g h) zs (x ∷ zs)) (inner_run (step h x) h k)
inner-++ x g (j ∷ hs) h k =
    ap (λ zs. cond (same g j) zs (x ∷ zs)) (inner-++ (step j x) j hs h k) ∙
    swapped (same g j) (same (final j hs) h) x (inner (step j x) j hs) (end (step j x) hs ∷ [])
