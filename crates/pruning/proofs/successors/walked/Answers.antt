use Rattle.std.proofs.Common.{pos, sym, ap, ◌∙◌}
use Rattle.floor.proofs.Plane.{at}
use Rattle.floor.specs.Plane.{point}
use Rattle.floor.specs.Steps.{shifted}
use Rattle.pruning.proofs.Shifts.{walk_row, walk_col}
use Rattle.pruning.proofs.successors.walked.Goals as goal

pub carry-requires : goal.carry-requires
carry-requires c = (
  c.requires.0.row,
  c.requires.1,
  ap (λ x. x.row) c.requires.3 ∙ walk_row c.args.heading c.args.steps (point c.args.cell) ∙
      ap (λ d. shifted d c.args.steps (pos c.args.cell.row)) (sym c.down.ensures),
)

pub carry-requires-2 : goal.carry-requires-2
carry-requires-2 c = (
  c.requires.0.col,
  c.requires.2,
  ap (λ x. x.col) c.requires.3 ∙ walk_col c.args.heading c.args.steps (point c.args.cell) ∙
      ap (λ d. shifted d c.args.steps (pos c.args.cell.col)) (sym c.across.ensures),
)

pub returns : goal.returns
returns c =
    at
    (c.carry.ensures ∙ ap (λ d. shifted d c.args.steps (pos c.args.cell.row)) c.down.ensures ∙ sym (walk_row c.args.heading c.args.steps (point c.args.cell)))
    (c.carry-2.ensures ∙ ap (λ d. shifted d c.args.steps (pos c.args.cell.col)) c.across.ensures ∙ sym (walk_col c.args.heading c.args.steps (point c.args.cell)))
