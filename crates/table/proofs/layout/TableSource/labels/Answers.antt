use Rattle.std.proofs.Common.{None, refl, ◌∙◌}
use Rattle.std.proofs.lemmas.List.{get_or-replicate}
use Rattle.table.proofs.Places.{placed_in}
use Rattle.table.proofs.Answering.{label_outside}
use Rattle.table.proofs.layout.TableSource.labels.Goals as goal

pub returns-in_default : goal.returns-in_default
returns-in_default c =
    let s = c.args.self.now in
    record {
      len = refl;
      made = λ h b.
          get_or-replicate 8 h 32768 0 b ∙
          label_outside s.size.rows s.size.cols s.size.few s.numbers.now s.defined c.args.cell (placed_in _ _ c.view.ensures.0 c.args.cell None c.in_default.ensures.placed) h b;
    }
