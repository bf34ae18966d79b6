-- The names, the number, who refuses, and where.
use Rattle.std.proofs.Common.{◌≡◌, ℕ, List, [], ◌∷◌, ◌++◌, codes, decimal, sym, refl, ap, ◌∙◌}
use Rattle.writing.specs.declared.Front.{Front}
use Rattle.writing.specs.Fronts.{Fits, Added}
use Rattle.writing.specs.Values.{last_values}
use Rattle.writing.proofs.Fronts.{Left, all_left, first_fits, others_left, left_as}
use Rattle.quoting.specs.declared.faults.Fault.{Fault}
use Rattle.quoting.specs.Faults.{origin_name, fault_line}
use Rattle.quoting.proofs.FaultLines.{names, in_pieces}
use Rattle.quoting.proofs.faults.put_fault.Goals as goal

module _ (page : Front ℕ) (f : Fault) (room : Fits page (fault_line f)) (from : List ℕ) (same : from ≡ origin_name f.from) where
  -- what is left at first, with the word for who refuses as it was answered
  at_first : Left page (fault_line f) page (names ++ (decimal f.number ++ (codes " " ++ (from ++ last_values (f.line ∷ f.field ∷ f.leg ∷ [])))))
  at_first = left_as _ _ _ _ _ (in_pieces f ∙ ap (λ (t : List ℕ). names ++ (decimal f.number ++ (codes " " ++ (t ++ last_values (f.line ∷ f.field ∷ f.leg ∷ []))))) (sym same)) (all_left _ _ room)

  module _ (named : Front ℕ) (a : Added page names named) where
    after_names : Left page (fault_line f) named (decimal f.number ++ (codes " " ++ (from ++ last_values (f.line ∷ f.field ∷ f.leg ∷ []))))
    after_names = others_left _ _ _ _ _ _ at_first a

    module _ (numbered : Front ℕ) (b : Added named (decimal f.number) numbered) where
      after_number : Left page (fault_line f) numbered (codes " " ++ (from ++ last_values (f.line ∷ f.field ∷ f.leg ∷ [])))
      after_number = others_left _ _ _ _ _ _ after_names b

      module _ (parted : Front ℕ) (d : Added numbered (codes " ") parted) where
        after_space : Left page (fault_line f) parted (from ++ last_values (f.line ∷ f.field ∷ f.leg ∷ []))
        after_space = others_left _ _ _ _ _ _ after_number d

pub put-requires : goal.put-requires
put-requires c = first_fits _ _ _ names _ (at_first _ c.args.fault c.requires (origin_name c.args.fault.from) refl)

pub put_number-requires : goal.put_number-requires
put_number-requires c = first_fits _ _ _ _ _ (after_names _ c.args.fault c.requires (origin_name c.args.fault.from) refl _ c.put.ensures)

pub put-requires-2 : goal.put-requires-2
put-requires-2 c = first_fits _ _ _ (codes " ") _ (after_number _ c.args.fault c.requires (origin_name c.args.fault.from) refl _ c.put.ensures _ c.put_number.ensures)

pub put-requires-3 : goal.put-requires-3
put-requires-3 c = first_fits _ _ _ _ _ (after_space _ c.args.fault c.requires _ (c.as_bytes.ensures.value ∙ c.name.ensures) _ c.put.ensures _ c.put_number.ensures _ c.put-2.ensures)

pub put_last_values-requires : goal.put_last_values-requires
put_last_values-requires c = (others_left _ _ _ _ _ _ (after_space _ c.args.fault c.requires _ (c.as_bytes.ensures.value ∙ c.name.ensures) _ c.put.ensures _ c.put_number.ensures _ c.put-2.ensures) c.put-3.ensures).fits

pub returns : goal.returns
returns c = (others_left _ _ _ _ _ _ (after_space _ c.args.fault c.requires _ (c.as_bytes.ensures.value ∙ c.name.ensures) _ c.put.ensures _ c.put_number.ensures _ c.put-2.ensures) c.put-3.ensures).rest _ c.put_last_values.ensures
