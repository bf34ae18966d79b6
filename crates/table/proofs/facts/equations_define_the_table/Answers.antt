use Rattle.table.proofs.Worked.{holds_defined, defined_holds}
use Rattle.table.proofs.facts.equations_define_the_table.Goals as goal

pub returns : goal.returns
returns c = λ p small label. record { only = holds_defined p small label; all = defined_holds p small label }
