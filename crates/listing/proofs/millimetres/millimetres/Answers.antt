use Rattle.std.proofs.Common.{arith}
use Rattle.std.proofs.lemmas.Grind.{common_steps}
use Rattle.listing.proofs.Figures.{small_square}
use Rattle.listing.proofs.millimetres.millimetres.Goals as goal

pub overflow_mul-diagonal-2 : goal.overflow_mul-diagonal-2
overflow_mul-diagonal-2 c = let small = small_square c.from-3.result c.from-4.result (grind (arith, common_steps)) (omega arith) in omega arith

pub overflow_mul-diagonal-3 : goal.overflow_mul-diagonal-3
overflow_mul-diagonal-3 c = let small = small_square c.from-3.result c.from-4.result (grind (arith, common_steps)) (omega arith) in omega arith
