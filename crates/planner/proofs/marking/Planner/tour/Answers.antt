-- Each turn measures the next leg; a refused one, or the end of the cells, ends the loop.
use Rattle.std.proofs.Common.{◌≡◌, ℕ, ◌+◌, ◌*◌, ◌<◌, ◌≤◌, List, [], ◌∷◌, ◌++◌, length, get_or, take, set, None, Ok, Err, Result, sym, refl, ap, ◌∙◌, subst, arith}
use Rattle.std.specs.Result.{result_map_both}
use Rattle.std.proofs.lemmas.Result.{err_from_is_err_and}
use Rattle.std.proofs.lemmas.List.{take_more_set, drop-set-lt}
use Rattle.floor.specs.declared.Counts.{Counts}
use Rattle.floor.specs.Tally.{steps}
use Rattle.floor.specs.Plans.{legal}
use Rattle.floor.proofs.Legal.{legal_fair}
use Rattle.cheapest.specs.Cheapest.{Leg, legs}
use Rattle.cheapest.specs.Claims.{longest}
use Rattle.lengths.specs.declared.answers.Refusal.{Refusal}
use Rattle.lengths.specs.declared.answers.Measured.{Measured}
use Rattle.lengths.specs.Questions.{first_no}
use Rattle.lengths.specs.Answers.{costs, LengthTold}
use Rattle.lengths.proofs.Lists.{spared_none, spared_on}
use Rattle.planner.specs.declared.answers.LoopRefusal.{LoopRefusal}
use Rattle.planner.specs.declared.answers.LoopRefusal.TheVariants as loop
use Rattle.planner.specs.Loops.{loop_questions}
use Rattle.planner.specs.Touring.{between, Toured}
use Rattle.planner.proofs.Legs.{front_kept, drop_one_more, few_cells, few_steps, told_as_long, Underway, start, on, stop, finish, told_all}
use Rattle.planner.proofs.Wholes.{whole_loop}
use Rattle.planner.proofs.marking.Planner.tour.Goals as goal

-- what was measured, or the refusal that the loop names the leg of
module _ (k : ℕ) where
  measured_so : (r : Result Measured Refusal) (n : Measured) → Ok n ≡ result_map_both (λ n. n) (loop.Leg k) r → r ≡ Ok n
  measured_so (Ok x) n h = cc
  measured_so (Err e) n h = absurd (let z : ◌≡◌ {A = ℕ} 0 1 = cc in omega arith)

  refused_so : (r : Result Measured Refusal) (d : LoopRefusal) → Err d ≡ result_map_both (λ n. n) (loop.Leg k) r → (e : Refusal) × (r ≡ Err e) × (d ≡ loop.Leg k e)
  refused_so (Ok x) d h = absurd (let z : ◌≡◌ {A = ℕ} 0 1 = cc in omega arith)
  refused_so (Err e) d h = (e, refl, (cc))

pub loop-i-init : goal.loop-i-init
loop-i-init g c = record {
  legs = start (g.R.Rate.order c.args.self.now.rate) (g.S.JumpSource.meaning c.args.self.now.source) c.args.cells.now (length c.args.work.now.entries.now) (length c.args.work.now.waiting.now);
  left = refl;
  rest = spared_none (g.S.JumpSource.meaning c.args.self.now.source) c.args.work.now;
  unsearched = λ e. refl;
}

pub add-total-requires : goal.add-total-requires
add-total-requires g c =
    let order = g.R.Rate.order c.args.self.now.rate in
    let p = g.S.JumpSource.meaning c.args.self.now.source in
    let cells = c.args.cells.now in
    let w = length c.args.work.now.entries.now in
    let v = length c.args.work.now.waiting.now in
    let i = c.loop-i.i in
    let s = c.leg_ends.result.0 in
    let t = c.leg_ends.result.1 in
    let q : first_no (loop_questions cells (length c.args.legs.now)) ≡ None = sym c.in_ok-check.ensures in
    let few = few_cells cells (length c.args.legs.now) q in
    let turn : i < length cells = c.loop-i-test.true in
    let here : (l : Leg) → get_or (legs cells) i l ≡ between s t = c.leg_ends.ensures in
    let n = c.in_ok-measured.measured in
    let is : c.measure-answer.result ≡ Ok n = measured_so (i + 1) c.measure-answer.result n c.in_ok-measured.ensures in
    let told : LengthTold order legal p s t (length c.loop-i.work.entries.now) (length c.loop-i.work.waiting.now) (Ok n.counts) =
    subst (λ r. LengthTold order legal p s t (length c.loop-i.work.entries.now) (length c.loop-i.work.waiting.now) (costs r)) is c.measure-answer.ensures.told in
    let before : steps c.loop-i.total ≤ longest * i = c.loop-i.invariant.legs.few in
    let more : steps n.counts ≤ longest = few_steps order (g.R.Rate.lawful c.args.self.now.rate) p (g.S.JumpSource.sized c.args.self.now.source) s t (length c.loop-i.work.entries.now) (length c.loop-i.work.waiting.now) n.counts told in
    let cells_few = few.0 in
    (omega arith, omega arith)

pub loop-i-preserved : goal.loop-i-preserved
loop-i-preserved g c =
    let order = g.R.Rate.order c.args.self.now.rate in
    let p = g.S.JumpSource.meaning c.args.self.now.source in
    let cells = c.args.cells.now in
    let w = length c.args.work.now.entries.now in
    let v = length c.args.work.now.waiting.now in
    let i = c.loop-i.i in
    let s = c.leg_ends.result.0 in
    let t = c.leg_ends.result.1 in
    let q : first_no (loop_questions cells (length c.args.legs.now)) ≡ None = sym c.in_ok-check.ensures in
    let few = few_cells cells (length c.args.legs.now) q in
    let turn : i < length cells = c.loop-i-test.true in
    let here : (l : Leg) → get_or (legs cells) i l ≡ between s t = c.leg_ends.ensures in
    let n = c.in_ok-measured.measured in
    let fits = few.1 in
    let room : i < length c.loop-i.legs = omega (arith, c.loop-i.auto.legs) in
    let is : c.measure-answer.result ≡ Ok n = measured_so (i + 1) c.measure-answer.result n c.in_ok-measured.ensures in
    let told : LengthTold order legal p s t w v (Ok n.counts) =
    told_as_long order p s t (length c.loop-i.work.entries.now) w (length c.loop-i.work.waiting.now) v (Ok n.counts) (c.loop-i.invariant.rest.lists.places) (c.loop-i.invariant.rest.lists.room)
    (subst (λ r. LengthTold order legal p s t (length c.loop-i.work.entries.now) (length c.loop-i.work.waiting.now) (costs r)) is c.measure-answer.ensures.told) in
    let short = few_steps order (g.R.Rate.lawful c.args.self.now.rate) p (g.S.JumpSource.sized c.args.self.now.source) s t w v n.counts told in
    let u = on order p cells w v i (take i c.loop-i.legs) c.loop-i.total c.loop-i.invariant.legs s t turn here n.counts told short in
    let front : take (i + 1) (set c.loop-i.legs i n.counts) ≡ take i c.loop-i.legs ++ n.counts ∷ [] = take_more_set c.loop-i.legs i n.counts room in
    record {
      legs =
          subst (λ (ns : List Counts). Underway order p cells w v (i + 1) ns c.add-total.result) (sym front)
          (subst (λ (m : Counts). Underway order p cells w v (i + 1) (take i c.loop-i.legs ++ n.counts ∷ []) m) (sym c.add-total.ensures) u);
      left = drop-set-lt (i + 1) c.loop-i.legs i n.counts (omega arith) ∙ drop_one_more i c.loop-i.legs c.args.legs.now c.loop-i.invariant.left;
      rest = spared_on p c.args.work.now c.loop-i.work c.measure-answer.new.work c.loop-i.invariant.rest c.measure-answer.ensures.rest;
      unsearched = λ e. absurd (omega arith);
    }

pub returns-in_err-measured-clause-told : goal.returns-in_err-measured-clause-told
returns-in_err-measured-clause-told g c =
    let order = g.R.Rate.order c.args.self.now.rate in
    let p = g.S.JumpSource.meaning c.args.self.now.source in
    let cells = c.args.cells.now in
    let w = length c.args.work.now.entries.now in
    let v = length c.args.work.now.waiting.now in
    let i = c.loop-i.i in
    let s = c.leg_ends.result.0 in
    let t = c.leg_ends.result.1 in
    let q : first_no (loop_questions cells (length c.args.legs.now)) ≡ None = sym c.in_ok-check.ensures in
    let few = few_cells cells (length c.args.legs.now) q in
    let turn : i < length cells = c.loop-i-test.true in
    let here : (l : Leg) → get_or (legs cells) i l ≡ between s t = c.leg_ends.ensures in
    let front = take i c.loop-i.legs in
    let fits = few.1 in
    let room : i ≤ length c.loop-i.legs = omega (arith, c.loop-i.auto.legs) in
    let d = refused_so (i + 1) c.measure-answer.result c.in_err-measured.field-0.0 c.in_err-measured.ensures in
    let b = err_from_is_err_and c.from_residual-in_err-measured.result c.from_residual-in_err-measured.ensures.1 in
    let is : c.from_residual-in_err-measured.result ≡ Err (loop.Leg (i + 1) d.0) = b.1 ∙ ap (λ e. Err e) (b.2 ∙ d.2) in
    let told : LengthTold order legal p s t w v (Err d.0) =
    told_as_long order p s t (length c.loop-i.work.entries.now) w (length c.loop-i.work.waiting.now) v (Err d.0) (c.loop-i.invariant.rest.lists.places) (c.loop-i.invariant.rest.lists.room)
    (subst (λ r. LengthTold order legal p s t (length c.loop-i.work.entries.now) (length c.loop-i.work.waiting.now) (costs r)) d.1 c.measure-answer.ensures.told) in
    subst (λ r. Toured order legal p cells w v c.args.legs.now c.loop-i.legs r) (sym is) (record {
      measured = front;
      written = front_kept i c.loop-i.legs c.args.legs.now room c.loop-i.invariant.left;
      told = told_all order p cells w v (length c.args.legs.now) front (Err (loop.Leg (i + 1) d.0)) q
          (stop order p cells w v i front c.loop-i.total c.loop-i.invariant.legs s t turn here d.0 told);
      whole = tt;
    })

pub returns-clause-told : goal.returns-clause-told
returns-clause-told g c =
    let order = g.R.Rate.order c.args.self.now.rate in
    let p = g.S.JumpSource.meaning c.args.self.now.source in
    let cells = c.args.cells.now in
    let w = length c.args.work.now.entries.now in
    let v = length c.args.work.now.waiting.now in
    let i = c.loop-i.i in
    let front = take i c.loop-i.legs in
    let q : first_no (loop_questions cells (length c.args.legs.now)) ≡ None = sym c.in_ok-check.ensures in
    let fits = (few_cells cells (length c.args.legs.now) q).1 in
    let room : i ≤ length c.loop-i.legs = omega (arith, c.loop-i.auto.legs, c.loop-i.auto.i-end) in
    let past : length cells ≤ i = omega arith in
    let told = told_all order p cells w v (length c.args.legs.now) front (Ok c.loop-i.total) q (finish order p cells w v i front c.loop-i.total c.loop-i.invariant.legs past) in
    record {
      measured = front;
      written = front_kept i c.loop-i.legs c.args.legs.now room c.loop-i.invariant.left;
      told = told;
      whole = whole_loop order legal p w v (g.R.Rate.lawful c.args.self.now.rate) legal_fair (g.S.JumpSource.sized c.args.self.now.source) cells (length c.args.legs.now) front (Ok c.loop-i.total) told;
    }
