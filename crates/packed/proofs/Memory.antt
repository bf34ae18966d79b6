-- What memory holds after a plan was made on it and marked: size, layout and meaning come along from the making, mark by mark.
use Rattle.std.proofs.Common.{◌≡◌, ℕ, List, length, drop, sym, ap, ◌∙◌}
use mathlib.Core.Path.{transport}
use Rattle.std.proofs.lemmas.Result.{MatchResult-weaker}
use Rattle.floor.specs.declared.Cell.{Cell}
use Rattle.floor.specs.Plans.{closed}
use Rattle.source.specs.declared.extents.Size.{Size}
use Rattle.source.specs.Sizes.{size_answer}
use Rattle.source.specs.Drawing.{opened}
use Rattle.packed.specs.Layout.{words_needed, plan_of, Laid, Kept, New, Unmade, Made, Drawn}

-- Memory on which a source of size s was made and cells were opened, when a source of the same size t is left.
module _ (rows cols : ℕ) (cells : List Cell) (before mid after : List ℕ) (s t : Size) where
  pub drawn_by : Made rows cols before (plan_of s.rows s.cols mid) mid → plan_of t.rows t.cols after ≡ opened (plan_of s.rows s.cols mid) cells → s ≡ t → Kept s.rows s.cols mid after → Drawn rows cols cells before after
  drawn_by made means same kept = MatchResult-weaker (size_answer rows cols (length before) (words_needed rows cols)) made (λ _. new) (λ _. unmade)
    where
      -- the same at the rows and columns of a plan that was made
      keeps : (r c : ℕ) → plan_of s.rows s.cols mid ≡ closed r c → Kept r c mid after
      keeps r c e = transport (λ i. Kept (e i).rows (e i).cols mid after) kept

      new : New rows cols before (plan_of s.rows s.cols mid) mid → Laid rows cols after × (plan_of rows cols after ≡ opened (closed rows cols) cells) × (drop (words_needed rows cols) after ≡ drop (words_needed rows cols) before)
      new n =
          let k = keeps rows cols n.plan in
          let says : plan_of rows cols after ≡ opened (plan_of s.rows s.cols mid) cells = (λ i. plan_of (sym n.plan i).rows (sym n.plan i).cols after) ∙ (λ i. plan_of (same i).rows (same i).cols after) ∙ means in
          (k.laid n.laid, says ∙ ap (λ p. opened p cells) n.plan, k.rest ∙ n.rest)

      unmade : Unmade before (plan_of s.rows s.cols mid) mid → after ≡ before
      unmade u = (keeps 0 0 u.plan).rest ∙ u.rest
