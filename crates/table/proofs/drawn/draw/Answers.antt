use Rattle.std.proofs.Common.{ℕ, List, sym, subst, rules}
use Rattle.table.specs.Layout.{Drawn}
use Rattle.table.proofs.Answering.{drawn_by}
use Rattle.table.proofs.drawn.draw.Goals as goal

pub returns : goal.returns
returns c =
    let made = c.make-source.result in
    let left = c.open_all.new.source in
    subst (λ (memory : List ℕ). Drawn c.args.rows c.args.cols c.args.cells.now c.args.memory.now memory) {x = left.numbers.now} (sym (search rules))
    (drawn_by c.args.rows c.args.cols c.args.cells.now c.args.memory.now made.numbers.now left.numbers.now made.size.rows made.size.cols left.size.rows left.size.cols
    c.make-source.ensures.plan left.defined c.open_all.ensures.plan c.open_all.ensures.kept.2)
