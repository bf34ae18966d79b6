-- The line of a refusal, in the pieces in which it is written.
use Rattle.std.proofs.Common.{◌≡◌, ℕ, List, [], ◌∷◌, ◌++◌, codes, decimal, append_assoc}
use Rattle.writing.specs.Values.{value, last_values}
use Rattle.quoting.specs.declared.faults.Fault.{Fault}
use Rattle.quoting.specs.Faults.{origin_name, fault_line}

-- the names of the columns, and their line feed
abbrev pub names : List ℕ
names = codes "number from line field leg" ++ 10 ∷ []

-- the line in the pieces in which it is written
pub in_pieces : (f : Fault) → fault_line f ≡ names ++ (decimal f.number ++ (codes " " ++ (origin_name f.from ++ last_values (f.line ∷ f.field ∷ f.leg ∷ []))))
unfolding fault_line last_values value
in_pieces f = simp append_assoc
