use Rattle.std.proofs.Common.{sym, subst}
use Rattle.packed.specs.Scans.{Next}
use Rattle.packed.proofs.Scanning.{in_own, in_no_word, in_other, in_neither}
use Rattle.packed.proofs.scans.next_ending.Goals as goal

pub returns-in-Some : goal.returns-in-Some
returns-in-Some c =
    let found = c.in-Some.ensures in
    in_own c.args.lines.now c.args.way c.args.at c.requires _ _ _ c.endings.ensures c.endings-2.ensures c.beyond.ensures c.in-Some.place found.0 found.1 found.2

pub returns-in_err-far : goal.returns-in_err-far
returns-in_err-far c =
    subst (Next c.args.lines.now c.args.at c.args.way) (sym c.from_residual.ensures)
    (in_no_word c.args.lines.now c.args.way c.args.at c.requires _ _ _ c.endings.ensures c.endings-2.ensures c.beyond.ensures c.in_default.ensures c.in_err-far.ensures)

pub returns-in_err-place : goal.returns-in_err-place
returns-in_err-place c =
    subst (Next c.args.lines.now c.args.at c.args.way) (sym c.from_residual-in_err-place.ensures)
    (in_neither c.args.lines.now c.args.way c.args.at c.requires _ _ _ c.endings.ensures c.endings-2.ensures c.beyond.ensures c.in_default.ensures _ c.in_ok-far.ensures c.in_err-place.ensures)

pub returns : goal.returns
returns c =
    let found = c.in_ok-place.ensures in
    in_other c.args.lines.now c.args.way c.args.at c.requires _ _ _ c.endings.ensures c.endings-2.ensures c.beyond.ensures c.in_default.ensures _ c.in_ok-far.ensures
    c.in_ok-place.place found.0 found.1 found.2
