use Rattle.std.proofs.Common.{sym}
use Rattle.std.proofs.lemmas.Bool.{cond-true}
use Rattle.source.proofs.Indices.{placed, index_below, its_own, none_left_out}
use Rattle.source.proofs.extents.Size.index_of.Goals as goal

pub returns-then-holds-clause-within : goal.returns-then-holds-clause-within
returns-then-holds-clause-within c =
    let at = placed c.args.self.rows c.args.self.cols c.args.cell _ (sym (cond-true _ _ _ (sym c.if-holds.ensures))) in
    index_below _ _ _ _ at.in_rows at.in_cols

pub returns-then-holds-clause-own : goal.returns-then-holds-clause-own
returns-then-holds-clause-own c = its_own c.args.self.rows c.args.self.cols c.args.cell _ (sym (cond-true _ _ _ (sym c.if-holds.ensures)))

pub returns-then-holds-clause-all : goal.returns-then-holds-clause-all
returns-then-holds-clause-all c = none_left_out c.args.self.rows c.args.self.cols

pub returns-else-holds-clause-all : goal.returns-else-holds-clause-all
returns-else-holds-clause-all c = none_left_out c.args.self.rows c.args.self.cols
