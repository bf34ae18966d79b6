use Rattle.std.proofs.Common.{nat_abs, ap, ◌∙◌, arith, w64}
use Rattle.std.proofs.lemmas.Nat.{mul-le}
use Rattle.std.proofs.lemmas.Int.{to_z-of_z}
use Rattle.rate.specs.Laws.{limit}
use Rattle.rate.specs.Exact.{squared}
use Rattle.rates.proofs.exact.square.Goals as goal

pub returns : goal.returns
returns c =
    let size = c.unsigned_abs-size.result in
    let e = c.unsigned_abs-size.ensures.value ∙ ap nat_abs (to_z-of_z w64 c.args.difference c.ranges.difference) in
    record { value = ap squared e; bound = mul-le size size limit limit (omega arith) (omega arith) }
