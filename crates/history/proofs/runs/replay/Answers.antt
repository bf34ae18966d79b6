-- Each turn puts one call more; the run ends after the last, or where what is left has no room for the next.
use Rattle.std.proofs.Common.{◌≡◌, ◌+◌, ◌-◌, ◌<◌, length, get_or, take, drop, refl, sym, ap, ◌∙◌, subst, arith}
use Rattle.std.proofs.lemmas.List.{get_or_default}
use Rattle.std.proofs.lemmas.Bool.{both_ways}
use Rattle.history.specs.declared.calls.Call.{Call}
use Rattle.history.specs.Lists.{lists, Put}
use Rattle.history.specs.declared.calls.Asks.TheVariants as asks
use Rattle.history.proofs.Running.{start, one_more, no_room, finish}
use Rattle.history.proofs.runs.replay.Goals as goal

-- what stands in for a call that is not there
abbrev nobody : Call
nobody = record { asks = asks.Open (record { row = 0; col = 0 }); rooms = record { entries = 0; waiting = 0; corners = 0; legs = 0 } }

pub loop-call-init : goal.loop-call-init
loop-call-init g c = record { run = start g.S.JumpSource.meaning g.S.JumpSource.lent g.S.JumpSource.intact _ _ _ _ _ _ _ refl; turn = refl; rate = refl; kept = g.S.JumpSource.stays c.args.planner.now.source }

pub loop-call-preserved : goal.loop-call-preserved
loop-call-preserved g c =
    let calls = c.args.calls.now in
    let i = c.loop-call.done in
    let turn : c.loop-call.call-index ≡ i = sym c.loop-call.invariant.turn in
    let k : Call = get_or calls c.loop-call.call-index nobody in
    let inside : i < length calls = let t = c.loop-call-test.true in let e = turn in omega arith in
    let room = c.has_room.ensures.0 c.if-not-has_room.false in
    let corners = c.loop-call.bends + k.rooms.corners - c.loop-call.bends in
    let legs = c.loop-call.measured + k.rooms.legs - c.loop-call.measured in
    let old = lists (take k.rooms.entries c.loop-call.entries) (take k.rooms.waiting c.loop-call.waiting) (take corners (drop c.loop-call.bends c.loop-call.corners)) (take legs (drop c.loop-call.measured c.loop-call.legs)) in
    let new = lists c.answer-said.new.entries c.answer-said.new.waiting c.answer-said.new.corners c.answer-said.new.legs in
    let more = one_more g.S.JumpSource.meaning g.S.JumpSource.lent g.S.JumpSource.intact (g.R.Rate.order c.args.planner.now.rate) (record { plan = g.S.JumpSource.meaning c.args.planner.now.source }) calls
    (record { source = c.args.planner.now.source; entries = c.args.tape.now.entries.now; waiting = c.args.tape.now.waiting.now }) c.args.tape.now.corners.now c.args.tape.now.legs.now c.args.tape.now.answers.now
    i (record { source = c.loop-call.planner.source; entries = c.loop-call.entries; waiting = c.loop-call.waiting }) c.loop-call.corners c.loop-call.legs c.loop-call.answers c.loop-call.bends c.loop-call.measured
    c.loop-call.invariant.run k (get_or_default calls c.loop-call.call-index nobody k c.loop-call-test.true ∙ ap (λ j. get_or calls j k) turn) inside room.0 (let r = room.1 in omega arith)
    c.answer-said.result c.answer-said.new.planner.source c.answer-said.new.entries c.answer-said.new.waiting c.answer-said.new.corners c.answer-said.new.legs
    corners legs c.corners-bends.result c.legs-measured.result (omega arith) (omega arith) c.corners-bends.ensures c.legs-measured.ensures in
    record {
      run = more (subst (λ o. Put (g.R.Rate.order o) (g.S.JumpSource.meaning c.loop-call.planner.source) k.asks c.answer-said.result old new) c.loop-call.invariant.rate c.answer-said.ensures.put)
          c.answer-said.ensures.plan c.answer-said.ensures.kept c.answer-said.ensures.refused;
      turn = ap (λ n. n + 1) c.loop-call.invariant.turn;
      rate = c.answer-said.ensures.rate ∙ c.loop-call.invariant.rate;
      kept = g.S.JumpSource.goes c.args.planner.now.source c.loop-call.planner.source c.answer-said.new.planner.source c.loop-call.invariant.kept c.answer-said.ensures.kept;
    }

pub returns-then-not-has_room-clause-ran : goal.returns-then-not-has_room-clause-ran
returns-then-not-has_room-clause-ran g c =
    let calls = c.args.calls.now in
    let turn : c.loop-call.call-index ≡ c.loop-call.done = sym c.loop-call.invariant.turn in
    let inside : c.loop-call.done < length calls = let t = c.loop-call-test.true in let e = turn in omega arith in
    let k : Call = get_or calls c.loop-call.call-index nobody in
    let run = c.loop-call.invariant.run in
    finish g.S.JumpSource.meaning g.S.JumpSource.lent g.S.JumpSource.intact (g.R.Rate.order c.args.planner.now.rate) _ calls c.args.planner.now.source c.loop-call.planner.source c.args.tape.now _
    c.loop-call.done c.loop-call.bends c.loop-call.measured run (let e = inside in omega arith)
    (λ enough. absurd (no_room g.S.JumpSource.meaning g.S.JumpSource.lent g.S.JumpSource.intact (g.R.Rate.order c.args.planner.now.rate) _ calls _ _ _ _ _ _ _ _ _ _ _ run k
    (get_or_default calls c.loop-call.call-index nobody k c.loop-call-test.true ∙ ap (λ j. get_or calls j k) turn) inside
    (λ fits. both_ways c.has_room.result c.if-not-has_room.true (c.has_room.ensures.1 fits)) c.args.tape.now refl refl refl refl refl enough))

pub returns-clause-ran : goal.returns-clause-ran
returns-clause-ran g c =
    let end : c.loop-call.done ≡ length c.args.calls.now = let t = c.loop-call.invariant.turn in let e = c.loop-call.auto.call-index-end in let f = c.loop-call-test.false in omega arith in
    finish g.S.JumpSource.meaning g.S.JumpSource.lent g.S.JumpSource.intact (g.R.Rate.order c.args.planner.now.rate) _ c.args.calls.now c.args.planner.now.source c.loop-call.planner.source c.args.tape.now _
    c.loop-call.done c.loop-call.bends c.loop-call.measured c.loop-call.invariant.run (let e = end in omega arith) (λ enough. end)
