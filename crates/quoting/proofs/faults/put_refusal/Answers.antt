-- Four numbers and a few words are short.
use Rattle.std.proofs.Common.{◌≤◌, [], ◌∷◌, length, ap, ◌∙◌, subst, arith}
use Rattle.std.proofs.lemmas.Grind.{common_steps}
use Rattle.std.proofs.lemmas.List.{length-append}
use Rattle.writing.specs.Fronts.{Added}
use Rattle.writing.proofs.Fronts.{all_written}
use Rattle.writing.proofs.Lengths.{length_any_decimal, length_any_values}
use Rattle.quoting.specs.declared.faults.Fault.{Fault}
use Rattle.quoting.specs.declared.faults.Origin.{Origin}
use Rattle.quoting.specs.declared.faults.Origin.TheVariants as origin
use Rattle.quoting.specs.Faults.{origin_name, fault_line}
use Rattle.quoting.proofs.FaultLines.{in_pieces}
use Rattle.quoting.proofs.faults.put_refusal.Goals as goal

origin_short : (from : Origin) → length (origin_name from) ≤ 8
origin_short origin.Sheet = omega arith
origin_short origin.Planner = omega arith
origin_short origin.Listing = omega arith

fault_short : (f : Fault) → length (fault_line f) ≤ 4096
fault_short f =
    let same = ap length (in_pieces f) in
    let number = length_any_decimal f.number in
    let from = origin_short f.from in
    let places = length_any_values (f.line ∷ f.field ∷ f.leg ∷ []) in
    omega (arith, simp length-append at same)

pub put_fault-requires : goal.put_fault-requires
put_fault-requires c =
    let short = fault_short c.from.result in
    let none = c.new-page.ensures.none in
    let long = ap length c.new-page.ensures.list in
    record { room = omega arith }

pub returns : goal.returns
returns c =
    let told = subst (λ (f : Fault). Added c.new-page.result (fault_line f) c.put_fault.new.page) c.from.ensures c.put_fault.ensures in
    let same = told.same ∙ c.new-page.ensures.lent in
    all_written _ _ _ _ _ _ c.new-page.ensures.none c.new-page.ensures.list told (grind (arith, common_steps)) c.len.ensures
