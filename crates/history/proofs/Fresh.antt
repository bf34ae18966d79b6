-- A run over a fresh planner of a lent source: what the planner's source promises, the source lent to it does.
use Rattle.std.proofs.Common.{◌≡◌, ℕ, List, take, ap, subst}
use Rattle.floor.specs.declared.Counts.{Counts}
use Rattle.floor.specs.Plans.{Plan, Sized, closed}
use Rattle.rate.specs.declared.Comparison.{Comparison}
use Rattle.rate.specs.Laws.{Lawful}
use Rattle.source.specs.Few.{Few}
use Rattle.history.specs.declared.calls.Call.{Call}
use Rattle.history.specs.declared.calls.Answer.{Answer}
use Rattle.history.specs.declared.calls.Tape.{Tape}
use Rattle.history.specs.Calls.{State, fresh}
use Rattle.history.specs.Records.{all_asked}
use Rattle.history.specs.Runs.{Moment, Left, InTurn, told_on, Ran, RunPromised}
use Rattle.history.proofs.Promised.{cheapest, more_open}

pub few_of : (p : Plan) → Sized p → Few p.rows p.cols
few_of p z = (z.few_rows, z.few_cols, z.no_rows, z.no_cols)

-- a source of type S stands behind one of type R, as behind a reference
module _ {R S : Type 0} (of : R → S) (meaning : S → Plan) (lent intact : S → S → Type 0) (lentR intactR : R → R → Type 0)
    (keeps : (a b : R) → lentR a b → lent (of a) (of b)) (same : (a b : R) → intactR a b → intact (of a) (of b)) (order : Counts → Counts → Comparison) where
  behind : Moment R → Moment S
  behind m = record { source = of m.source; entries = m.entries; waiting = m.waiting }

  left : {k : Call} {x : Answer} {m n : Moment R} → Left (λ r. meaning (of r)) lentR intactR order k x m n → Left meaning lent intact order k x (behind m) (behind n)
  unfolding behind
  left p = record { front = p.front; entries = p.entries; waiting = p.waiting; memory = keeps _ _ p.memory; refused = λ h. same _ _ (p.refused h) }

  in_turn : {s : State} {ks : List Call} {xs : List Answer} {m n : Moment R} → InTurn (λ r. meaning (of r)) lentR intactR order s ks xs m n → InTurn meaning lent intact order s ks xs (behind m) (behind n)
  unfolding behind
  in_turn (InTurn.ended e) = InTurn.ended e
  in_turn (InTurn.onward mid e p r) = InTurn.onward (behind mid) e (left p) (in_turn r)

  ran_behind : {s : State} {calls : List Call} {n : ℕ} {a b : R} {old new : Tape} → Ran (λ r. meaning (of r)) lentR intactR order s calls n a b old new → Ran meaning lent intact order s calls n (of a) (of b) old new
  unfolding behind
  ran_behind r = record { few = r.few; all = r.all; answered = r.answered; in_turn = in_turn r.in_turn; plan = r.plan; past = r.past }

  pub fresh_run : Lawful order → (source : S) → Sized (meaning source) → (cleared last : R) → lent source (of cleared) → lent source (of last) → meaning (of cleared) ≡ closed (meaning source).rows (meaning source).cols →
      (calls : List Call) (n : ℕ) (old new : Tape) → Ran (λ r. meaning (of r)) lentR intactR order (record { plan = meaning (of cleared) }) calls n cleared last old new →
      RunPromised meaning lent intact order calls n source (of last) old new
  fresh_run law source z cleared last kept after none calls n old new run =
      let rows = (meaning source).rows in
      let cols = (meaning source).cols in
      let ran : Ran meaning lent intact order (fresh rows cols) calls n (of cleared) (of last) old new =
      subst (λ s. Ran meaning lent intact order s calls n (of cleared) (of last) old new) (ap (λ p. record { plan = p }) none) (ran_behind run) in
      record {
        cheapest_at_every_moment = cheapest order law rows cols (few_of (meaning source) z) (all_asked (take n calls)) (told_on n new) ran.answered;
        more_open_cells_never_cost_more = more_open order law rows cols (few_of (meaning source) z) (all_asked (take n calls)) (told_on n new) ran.answered;
        cleared = of cleared;
        ran = ran;
        same_memory = kept;
        memory = after;
      }
