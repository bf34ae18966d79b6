use Rattle.std.proofs.Common.{◌≡◌, sym, ap, ◌∙◌}
use Rattle.packed.specs.Scans.{upright}
use Rattle.source.proofs.Walks.{closed_jump}
use Rattle.packed.proofs.Running.{course, straight_scan}
use Rattle.packed.proofs.layout.PackedSourceGround.straight_jump.Goals as goal
use Rattle.packed.proofs.layout.PackedSourceGround.straight_jump.Goals.{then-is_upright, else-is_upright}

pub returns-then-not-is_free : goal.returns-then-not-is_free
returns-then-not-is_free c = closed_jump _ c.args.towards c.args.cell (sym c.is_free.ensures ∙ c.if-not-is_free.true)

pub returns : goal.returns
returns c =
    let self = c.args.self.now in
    let by = course self.size.rows self.size.cols c.args.cell in
    let chosen : c.if-is_upright.line ≡ by (upright c.args.towards) = elim c.if-is_upright.branch [
      | then-is_upright w ↦
          w.line-is ∙ (λ i. (w.by_columns.ensures i, c.args.cell.col, c.args.cell.row)) ∙ ap by (sym (sym c.is_upright.ensures ∙ w.if-is_upright.true))
      | else-is_upright w ↦
          w.line-is ∙ (λ i. (w.by_rows.ensures i, c.args.cell.row, c.args.cell.col)) ∙ ap by (sym (sym c.is_upright.ensures ∙ w.if-is_upright.false))
    ] in
    straight_scan self.size.rows self.size.cols self.words.now self.laid c.args.towards c.requires c.args.cell (sym c.is_free.ensures ∙ c.if-not-is_free.false)
    _ _ _ _ chosen c.way_of.ensures c.lines_around.ensures c.scan.ensures
