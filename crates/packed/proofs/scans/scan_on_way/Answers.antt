use Rattle.std.proofs.Common.{◌-◌, false, None, sym, subst}
use Rattle.packed.specs.Scans.{Next, Scanned}
use Rattle.packed.proofs.Scanning.{found_closed, found_stop, runs_out_forward, runs_out_backward}
use Rattle.packed.proofs.scans.scan_on_way.Goals as goal

pub returns-then-is_set : goal.returns-then-is_set
returns-then-is_set c =
    found_closed c.args.lines.now c.args.way c.args.at c.requires c.in-Some.end c.in-Some.ensures _ c.is_set.ensures _ c.abs_diff-steps.ensures c.if-is_set.true

pub returns-else-is_set : goal.returns-else-is_set
returns-else-is_set c =
    found_stop c.args.lines.now c.args.way c.args.at c.requires c.in-Some.end c.in-Some.ensures _ c.is_set.ensures _ c.abs_diff-steps.ensures c.if-is_set.false

pub returns-in-Forward : goal.returns-in-Forward
returns-in-Forward c =
    subst (λ way. Next c.args.lines.now c.args.at way None → Scanned c.args.lines.now c.args.at way (127 - c.args.at, false)) (sym c.in-Forward.is)
    (runs_out_forward c.args.lines.now c.args.at c.requires) c.in_default.ensures

pub returns-in-Backward : goal.returns-in-Backward
returns-in-Backward c =
    subst (λ way. Next c.args.lines.now c.args.at way None → Scanned c.args.lines.now c.args.at way (c.args.at, false)) (sym c.in-Backward.is)
    (runs_out_backward c.args.lines.now c.args.at c.requires) c.in_default.ensures
