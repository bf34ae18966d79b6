use Rattle.std.proofs.Common.{◌<◌, sym, ap, ◌∙◌, arith}
use Rattle.std.proofs.lemmas.Bool.{and_parts, ltb-true}
use Rattle.packed.specs.Layout.{by_rows, word_of}
use Rattle.packed.proofs.Marking.{word_in, reads_cell}
use Rattle.packed.proofs.layout.PackedSourceGround.is_free.Goals as goal

pub bounds-self-word : goal.bounds-self-word
bounds-self-word c =
    let both = and_parts _ _ (sym c.holds.ensures ∙ c.if-not-holds.false) in
    let in_cols : c.args.cell.col < c.args.self.now.size.cols = ltb-true _ _ both.1 in
    let at = c.word_of-word.ensures ∙ ap (λ h. word_of h c.args.cell.row c.args.cell.col) c.by_rows.ensures in
    omega (arith, at, c.args.self.now.laid.fits, word_in (by_rows c.args.self.now.size.rows c.args.self.now.size.cols) c.args.cell.row c.args.cell.col (ltb-true _ _ both.0) (omega arith))

pub returns : goal.returns
returns c =
    let both = and_parts _ _ (sym c.holds.ensures ∙ c.if-not-holds.false) in
    let at = c.word_of-word.ensures ∙ ap (λ h. word_of h c.args.cell.row c.args.cell.col) c.by_rows.ensures in
    reads_cell _ _ _ c.args.cell _ _ (ltb-true _ _ both.0) (ltb-true _ _ both.1) at c.is_set.ensures
