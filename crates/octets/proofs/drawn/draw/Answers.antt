use Rattle.std.proofs.Common.{ℕ, List, sym, subst, rules}
use Rattle.octets.specs.Layout.{Drawn}
use Rattle.octets.proofs.Memory.{drawn_by}
use Rattle.octets.proofs.drawn.draw.Goals as goal

pub returns : goal.returns
returns c =
    let made = c.make-source.result in
    let left = c.open_all.new.source in
    let kept = c.open_all.ensures.kept in
    subst (λ (memory : List ℕ). Drawn c.args.rows c.args.cols c.args.cells.now c.args.memory.now memory) {x = left.bytes.now} (sym (search rules))
    (drawn_by c.args.rows c.args.cols c.args.cells.now c.args.memory.now made.bytes.now left.bytes.now made.size left.size
    c.make-source.ensures.plan c.open_all.ensures.plan kept.1 kept.2)
