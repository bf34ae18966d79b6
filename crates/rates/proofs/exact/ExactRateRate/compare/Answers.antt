use Rattle.std.proofs.Common.{◌∙◌, arith}
use Rattle.std.proofs.lemmas.Int.{ints}
use Rattle.rate.specs.Exact.{compared, excess}
use Rattle.rates.proofs.Signs.{balanced, difference}
use Rattle.rates.proofs.exact.ExactRateRate.compare.Goals as goal

pub returns : goal.returns
returns c =
    let straight = difference c.from.result c.from-2.result in
    let diagonal = difference c.from-3.result c.from-4.result in
    let x = c.cap_counts-x.ensures in
    let y = c.cap_counts-y.ensures in
    c.balance_of.ensures
    ∙ balanced c.cap_counts-x.result c.cap_counts-y.result straight diagonal (omega (arith, ints)) (omega (arith, ints))
    ∙ (λ i. compared (excess (x i) (y i)) (excess (y i) (x i)))
