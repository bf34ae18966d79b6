-- The planner borrows the source, so what it leaves of its own source is what is left of that one.
use Rattle.std.proofs.Common.{◌≡◌, MutBor, sym, subst, rules}
use Rattle.history.specs.Runs.{Ran, RunPromised}
use Rattle.history.proofs.Fresh.{fresh_run}
use Rattle.history.proofs.runs.replay_fresh.Goals as goal

pub returns : goal.returns
returns g c =
    let S = g.row.S.Denot in
    let meaning = g.S.JumpSource.meaning in
    let lent : MutBor S → MutBor S → Type 0 = λ s t. (s.ghost_name ≡ t.ghost_name) × g.S.JumpSource.lent s.now t.now in
    let intact : MutBor S → MutBor S → Type 0 = λ s t. (s.ghost_name ≡ t.ghost_name) × g.S.JumpSource.intact s.now t.now in
    let order = g.R.Rate.order c.args.rate.now in
    let planner = c.new-planner.result in
    let ran : Ran (λ (s : MutBor S). meaning s.now) lent intact order (record { plan = meaning planner.source.now }) c.args.calls.now c.replay.result planner.source c.replay.new.planner.source c.args.tape.now c.replay.new.tape =
    subst (λ r. Ran (λ (s : MutBor S). meaning s.now) lent intact (g.R.Rate.order r.now) (record { plan = meaning planner.source.now }) c.args.calls.now c.replay.result planner.source c.replay.new.planner.source c.args.tape.now
    c.replay.new.tape) c.new-planner.ensures.rate c.replay.ensures.ran in
    let promised = fresh_run (λ (r : MutBor S). r.now) meaning g.S.JumpSource.lent g.S.JumpSource.intact lent intact (λ a b h. h.1) (λ a b h. h.1) order (g.R.Rate.lawful c.args.rate.now) c.args.source.now
    (g.S.JumpSource.sized c.args.source.now) planner.source c.replay.new.planner.source c.new-planner.ensures.kept.1
    (g.S.JumpSource.goes c.args.source.now planner.source.now c.replay.new.planner.source.now c.new-planner.ensures.kept.1 c.replay.ensures.kept.1) c.new-planner.ensures.plan c.args.calls.now c.replay.result c.args.tape.now c.replay.new.tape ran in
    record {
      promised = subst (λ s. RunPromised meaning g.S.JumpSource.lent g.S.JumpSource.intact order c.args.calls.now c.replay.result c.args.source.now s c.args.tape.now c.replay.new.tape)
          (sym (search rules)) promised;
    }
