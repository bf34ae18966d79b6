-- What memory holds after a plan was made on it and marked: the plan's meaning tells which cells are open, and bytes of 0 or 1 have no choice then.
use Rattle.std.proofs.Common.{◌≡◌, ℕ, ◌+◌, ◌*◌, ◌<◌, ◌≤◌, true, eqb, ltb, List, ◌++◌, length, get_or, take, drop, replicate, Ok, Err, Result, refl, ap, ◌∙◌, subst, inl, inr, arith, MatchResult}
use Rattle.std.proofs.lemmas.Bool.{cases_Bool, eqb-true, eqb-false, lt-ltb}
use Rattle.std.proofs.lemmas.Result.{MatchResult-weaker}
use Rattle.floor.specs.declared.Cell.{Cell}
use Rattle.floor.specs.Plans.{Plan, closed}
use Rattle.source.specs.declared.extents.Size.{Size}
use Rattle.source.specs.declared.sizes.SizeRefusal.{SizeRefusal}
use Rattle.source.specs.Sizes.{size_answer}
use Rattle.source.specs.Drawing.{opened}
use Rattle.octets.specs.Layout.{plan_of, written, Holds, Kept, New, Unmade, Made, Drawn}
use Rattle.source.proofs.Laid.{Gets, enough, all_filled, rest_kept}
use Rattle.source.proofs.Indices.{index_below}
use Rattle.octets.proofs.Cells.{ones_closed}

plain_written : (v : ℕ) → v ≤ 1 → v ≡ written (eqb v 0)
plain_written v l = elim (cases_Bool (eqb v 0)) [
  | inl e ↦ rw e (eqb-true v 0 e)
  | inr e ↦ rw e (one v l (eqb-false v 0 e))
]
  where
    one : (v : ℕ) → v ≤ 1 → (v ≡ 0 → ⊥) → v ≡ 1
    one v l n = omega arith

-- bytes of 0 and 1 are those that are written for the plan that they mean
plain_holds : (rows cols : ℕ) (bytes : List ℕ) → ((k : ℕ) → k < rows * cols → get_or bytes k 0 ≤ 1) → Holds (plan_of rows cols bytes) bytes
plain_holds rows cols bytes plain r c p q =
    let row_in : ltb r rows ≡ true = lt-ltb r rows p in
    let col-in : ltb c cols ≡ true = lt-ltb c cols q in
    rw (row_in, col-in) (plain_written (get_or bytes (r * cols + c) 0) (plain (r * cols + c) (index_below rows cols r c p q)))

-- Memory on which a plan of this size was made: as many bytes as the plan has cells were written as closed cells.
module _ (rows cols : ℕ) (before written : List ℕ) (s : Size) (n : ℕ) (cells : n ≡ s.rows * s.cols) (filled : written ≡ replicate (length (take n before)) 1) where
  abbrev now : List ℕ
  now = written ++ drop n before

  abbrev made : Plan
  made = plan_of s.rows s.cols now

  pub made_by : Gets rows cols s (size_answer rows cols (length before) (rows * cols)) → Made rows cols before made now
  made_by gets = at (size_answer rows cols (length before) (rows * cols)) refl gets
    where
      new : (s.rows ≡ rows) × (s.cols ≡ cols) → rows * cols ≤ length before → New rows cols before made now
      new e fits =
          let all : n ≡ rows * cols = cells ∙ (λ i. e.0 i * e.1 i) in
          let room : n ≤ length before = omega arith in
          let ones : (k : ℕ) → k < rows * cols → get_or now k 0 ≡ 1 = λ k b. all_filled 1 n before written room filled k (omega arith) in
          record {
            plan = (λ i. plan_of (e.0 i) (e.1 i) now) ∙ ones_closed rows cols now ones;
            ones = ones;
            rest = subst (λ m. drop m now ≡ drop m before) all (rest_kept 1 n before written room filled);
          }

      unmade : (s.rows ≡ 0) × (s.cols ≡ 0) → Unmade before made now
      unmade e =
          let none : n ≡ 0 = cells ∙ (λ i. e.0 i * e.1 i) in
          record {
            plan = (λ i. plan_of (e.0 i) (e.1 i) now) ∙ ones_closed 0 0 now (λ k b. absurd (omega arith));
            rest = subst (λ m. drop m now ≡ drop m before) none (rest_kept 1 n before written (omega arith) filled);
          }

      at : (a : Result (Unit {0}) SizeRefusal) → size_answer rows cols (length before) (rows * cols) ≡ a → Gets rows cols s a → MatchResult a (λ _. New rows cols before made now) (λ _. Unmade before made now)
      at (Ok _) passed g = new g (enough rows cols (length before) (rows * cols) passed)
      at (Err _) refused g = unmade g

-- Memory on which a source of size s was made and cells were opened, when a source of the same size t is left.
module _ (rows cols : ℕ) (cells : List Cell) (before mid after : List ℕ) (s t : Size) where
  pub drawn_by : Made rows cols before (plan_of s.rows s.cols mid) mid → plan_of t.rows t.cols after ≡ opened (plan_of s.rows s.cols mid) cells → s ≡ t → Kept s.rows s.cols mid after → Drawn rows cols cells before after
  drawn_by made means same kept = MatchResult-weaker (size_answer rows cols (length before) (rows * cols)) made (λ _. new) (λ _. unmade)
    where
      kept_cells : s.rows * s.cols ≡ t.rows * t.cols
      kept_cells = ap (λ (z : Size). z.rows * z.cols) same

      new : New rows cols before (plan_of s.rows s.cols mid) mid → Holds (opened (closed rows cols) cells) after × (drop (rows * cols) after ≡ drop (rows * cols) before)
      new n =
          let all : s.rows * s.cols ≡ rows * cols = ap (λ (p : Plan). p.rows * p.cols) n.plan in
          let plain : (k : ℕ) → k < t.rows * t.cols → get_or after k 0 ≤ 1 = λ k l. kept.plain k (omega (arith, kept_cells)) (omega (arith, n.ones k (omega (arith, kept_cells, all)))) in (
            subst (λ p. Holds p after) (means ∙ ap (λ p. opened p cells) n.plan) (plain_holds t.rows t.cols after plain),
            subst (λ k. drop k after ≡ drop k mid) all kept.rest ∙ n.rest,
          )

      unmade : Unmade before (plan_of s.rows s.cols mid) mid → after ≡ before
      unmade u = subst (λ k. drop k after ≡ drop k mid) (ap (λ (p : Plan). p.rows * p.cols) u.plan) kept.rest ∙ u.rest
