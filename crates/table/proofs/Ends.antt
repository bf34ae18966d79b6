-- Where a jump ends, and what a label should be, by what a reader finds at the two cells of a step.
use Rattle.std.proofs.Common.{◌≡◌, ℕ, Bool, true, false, cond, ◌||◌, sym, ap, ◌∙◌}
use Rattle.floor.specs.declared.Heading.{Heading}
use Rattle.floor.specs.declared.Side.TheVariants.{Left, Right}
use Rattle.floor.specs.Plane.{Point, turn, diagonal, step}
use Rattle.floor.specs.Plans.{legal}
use Rattle.floor.specs.Jumps.{stops}
use Rattle.table.specs.Equations.{dead, live, one_on, ends, due}

module _ (free : Point → Bool) (label : Point → Heading → ℕ) (x : Point) (h : Heading) where
  pub straight_end : diagonal h ≡ false → (b : Bool) → stops free x h ≡ b → b ≡ ends free label x h
  unfolding ends
  straight_end d b e = sym e ∙ sym (ap (λ t. cond t (live (label (step h x) (turn Left h)) || live (label (step h x) (turn Right h))) (stops free x h)) d)

  pub slanted_end : diagonal h ≡ true → (y : Point) → y ≡ step h x → (left right : Heading) → left ≡ turn Left h → right ≡ turn Right h →
      (l r : Bool) → l ≡ live (label y left) → r ≡ live (label y right) → (l || r) ≡ ends free label x h
  unfolding ends
  slanted_end d y at left right a b l r e f =
      (λ i. e i || f i) ∙ (λ i. live (label (at i) (a i)) || live (label (at i) (b i))) ∙
      sym (ap (λ t. cond t (live (label (step h x) (turn Left h)) || live (label (step h x) (turn Right h))) (stops free x h)) d)

  pub due_blocked : legal free x h ≡ false → due free label x h ≡ dead
  unfolding due
  due_blocked l = ap (λ b. cond b (cond (ends free label x h) 1 (one_on (label (step h x) h))) dead) l

  pub due_end : legal free x h ≡ true → ends free label x h ≡ true → due free label x h ≡ 1
  unfolding due
  due_end l e = ap (λ b. cond b (cond (ends free label x h) 1 (one_on (label (step h x) h))) dead) l ∙ ap (λ b. cond b 1 (one_on (label (step h x) h))) e

  pub due_further : legal free x h ≡ true → ends free label x h ≡ false → (y : Point) → y ≡ step h x → due free label x h ≡ one_on (label y h)
  unfolding due
  due_further l e y at =
      ap (λ b. cond b (cond (ends free label x h) 1 (one_on (label (step h x) h))) dead) l ∙ ap (λ b. cond b 1 (one_on (label (step h x) h))) e ∙
      ap (λ z. one_on (label z h)) (sym at)
