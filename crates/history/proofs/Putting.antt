-- What a loop answers and leaves, as a call of a run.
use Rattle.std.proofs.Common.{◌≡◌, ℕ, List, length, take, IfErr, MatchResult, None, Ok, Err, Result, sym, refl, ap, subst, arith}
use Rattle.floor.specs.declared.Cell.{Cell}
use Rattle.floor.specs.declared.Counts.{Counts}
use Rattle.floor.specs.Plans.{Plan, legal}
use Rattle.rate.specs.declared.Comparison.{Comparison}
use Rattle.search.specs.declared.entry.Entry.{Entry}
use Rattle.search.specs.declared.Waiter.{Waiter}
use Rattle.search.specs.declared.Work.{Work}
use Rattle.lengths.specs.Lists.{Spared}
use Rattle.planner.specs.declared.answers.LoopRefusal.{LoopRefusal}
use Rattle.planner.specs.Touring.{Unsearched, Toured}
use Rattle.history.specs.declared.calls.Asks.{Asks}
use Rattle.history.specs.declared.calls.Answer.{Answer}
use Rattle.history.specs.declared.calls.Answer.TheVariants as answer
use Rattle.history.specs.Calls.{a_loop, toured, Right}
use Rattle.history.specs.declared.calls.Rooms.{Rooms}
use Rattle.history.specs.Records.{asked, measured_legs}
use Rattle.history.specs.Lists.{Lists, lists, rooms, ends_of, Put}
use Rattle.history.proofs.Measuring.{measured_front, measured_past, measured_few}

-- refused before anything was searched, so the lists are as they were
unsearched : (r : Result Counts LoopRefusal) (old new : Work) → IfErr r (λ e. Unsearched e → new ≡ old) → MatchResult r (λ _. ⊥) Unsearched →
    (new.entries.now ≡ old.entries.now) × (new.waiting.now ≡ old.waiting.now)
unsearched (Ok n) old new h u = absurd u
unsearched (Err e) old new h u = let is = h u in (ap (λ (w : Work). w.entries.now) is, ap (λ (w : Work). w.waiting.now) is)

-- the same work lists, known by other names
pub put_of : (order : Counts → Counts → Comparison) (p : Plan) (k : Asks) (x : Answer) (old : Lists) (es es' : List Entry) (vs vs' : List Waiter) (cs : List Cell) (ns : List Counts) →
    Put order p k x old (lists es vs cs ns) → es' ≡ es → vs' ≡ vs → Put order p k x old (lists es' vs' cs ns)
put_of order p k x old es es' vs vs' cs ns h e v = subst (λ us. Put order p k x old (lists us vs' cs ns)) (sym e) (subst (λ us. Put order p k x old (lists es us cs ns)) (sym v) h)

module _ (order : Counts → Counts → Comparison) (p : Plan) (k : Asks) (cells : List Cell) (old new : Work) (cs : List Cell) (ns ns' : List Counts) (r : Result Counts LoopRefusal) where
  pub loop_put : ((l : Rooms) → asked k l ≡ a_loop cells l.entries l.waiting l.legs) → ends_of k ≡ None →
      Toured order legal p cells (length old.entries.now) (length old.waiting.now) ns ns' r → Spared p old new →
      IfErr r (λ e. Unsearched e → new ≡ old) → length ns' ≡ length ns →
      Put order p k (answer.Loop r (measured_legs r (length cells))) (lists old.entries.now old.waiting.now cs ns) (lists new.entries.now new.waiting.now cs ns')
  loop_put here none t rest same long =
      let w = length old.entries.now in
      let v = length old.waiting.now in
      let n = measured_legs r (length cells) in
      record {
        right =
            subst (λ a. Right order legal (record { plan = p }) a (toured r (take n ns'))) (sym (here (rooms old.entries.now old.waiting.now cs ns)))
            (r, t.measured, ap (toured r) (measured_front order legal p w v cells ns ns' r t), t.told, t.whole);
        work = record { searched = λ s u m d. absurd (let z = none in let y : ◌≡◌ {A = ℕ} 0 1 = cc in omega arith); entries = rest.entries; waiting = rest.waiting; same = unsearched r old new same };
        few_corners = omega arith;
        few_legs = measured_few order legal p w v cells ns ns' r t long;
        past_corners = refl;
        past_legs = measured_past order legal p w v cells ns ns' r t;
        as_long = λ i. record { entries = rest.lists.places i; waiting = rest.lists.room i; corners = length cs; legs = long i };
      }
