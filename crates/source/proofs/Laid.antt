-- What a new source rests on: the size that it gets by the size check, and memory whose first entries are all written with one number.
use Rattle.std.proofs.Common.{◌≡◌, ℕ, ◌<◌, ◌≤◌, Bool, true, false, cond, nat_le, Ok, Err, Result, IfOk, MatchResult, List, ◌++◌, length, get_or, take, drop, replicate, refl, ap, ◌∙◌, arith}
use Rattle.std.proofs.lemmas.Bool.{leb-true}
use Rattle.std.proofs.lemmas.List.{length-replicate, length-append, length-take, length-drop, get_or_append_left, get_or-replicate, drop_at}
use Rattle.std.specs.Result.{result_map_both, result_unwrap_or}
use Rattle.source.specs.declared.extents.Size.{Size}
use Rattle.source.specs.declared.sizes.SizeRefusal.{SizeRefusal}
use Rattle.source.specs.declared.sizes.SizeRefusal.TheVariants.{Extent, Memory}
use Rattle.source.specs.Sizes.{within_limits, size_answer}

-- by what the check answered: these rows and columns, or none
abbrev pub Gets : ℕ → ℕ → Size → Result (Unit {0}) SizeRefusal → Type 0
Gets rows cols s a = MatchResult a (λ _. (s.rows ≡ rows) × (s.cols ≡ cols)) (λ _. (s.rows ≡ 0) × (s.cols ≡ 0))

pub size_got : (rows cols : ℕ) (r : Result Size SizeRefusal) (a : Result (Unit {0}) SizeRefusal) (none s : Size) → result_map_both (λ _. tt) (λ e. e) r ≡ a → IfOk r (λ x. (x.rows ≡ rows) × (x.cols ≡ cols)) →
    (none.rows ≡ 0) × (none.cols ≡ 0) → s ≡ result_unwrap_or r none → Gets rows cols s a
size_got rows cols (Ok x) a none s answer size zero is = rw (← answer) (ap (λ (z : Size). z.rows) is ∙ size.0, ap (λ (z : Size). z.cols) is ∙ size.1)
size_got rows cols (Err e) a none s answer size zero is = rw (← answer) (ap (λ (z : Size). z.rows) is ∙ zero.0, ap (λ (z : Size). z.cols) is ∙ zero.1)

-- where the check passes there is memory enough
pub enough : (rows cols have need : ℕ) → size_answer rows cols have need ≡ Ok tt → need ≤ have
enough rows cols have need e = by (within_limits rows cols) (nat_le need have) e (λ t. leb-true need have t)
  where
    by : (b d : Bool) → ◌≡◌ {A = Result (Unit {0}) SizeRefusal} (cond b (cond d (Ok tt) (Err Memory)) (Err Extent)) (Ok tt) → (d ≡ true → need ≤ have) → need ≤ have
    by true true e p = p refl
    by true false e p = cc
    by false d e p = cc

module _ (v n : ℕ) (before written : List ℕ) (room : n ≤ length before) (filled : written ≡ replicate (length (take n before)) v) where
  long : length written ≡ n
  long = omega (arith, ap length filled, length-replicate (length (take n before)) v, length-take n before)

  pub all_long : length (written ++ drop n before) ≡ length before
  all_long = omega (arith, length-append written (drop n before), length-drop n before, long)

  pub all_filled : (k : ℕ) → k < n → get_or (written ++ drop n before) k 0 ≡ v
  all_filled k b =
      get_or_append_left written (drop n before) 0 k (omega (arith, long)) ∙ ap (λ w. get_or w k 0) filled ∙ get_or-replicate (length (take n before)) k v 0 (omega (arith, length-take n before))

  pub rest_kept : drop n (written ++ drop n before) ≡ drop n before
  rest_kept = drop_at written (drop n before) n long
