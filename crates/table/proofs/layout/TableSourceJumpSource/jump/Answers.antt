use Rattle.std.proofs.Common.{◌≡◌, sym, ap, ◌∙◌}
use Rattle.floor.specs.Plane.{point}
use Rattle.table.specs.Equations.{label_of_point}
use Rattle.source.specs.Labels.{said_by}
use Rattle.table.proofs.Answering.{jump_read}
use Rattle.table.proofs.layout.TableSourceJumpSource.jump.Goals as goal

pub returns : goal.returns
returns c =
    let s = c.args.self.now in
    let read : c.label.result ≡ label_of_point s.size.rows s.size.cols s.numbers.now (point c.args.cell) c.in-Ok.towards =
    c.label.ensures ∙ (λ i. label_of_point (c.view.ensures.0 i).rows (c.view.ensures.0 i).cols (c.view.ensures.1 i) (point c.args.cell) c.in-Ok.towards) in
    c.read_label.ensures.said ∙ ap said_by read ∙
    jump_read s.size.rows s.size.cols s.size.few s.numbers.now s.defined c.args.cell c.args.heading c.in-Ok.towards (sym c.in-Ok.ensures)
