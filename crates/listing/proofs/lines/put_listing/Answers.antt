-- The names, the legs, and all of them.
use Rattle.std.proofs.Common.{◌≡◌, ℕ, List, ◌++◌, codes, sym, ap}
use Rattle.writing.specs.declared.Front.{Front}
use Rattle.writing.specs.Fronts.{Fits, Added}
use Rattle.writing.proofs.Fronts.{Left, all_left, first_fits, others_left, left_as}
use Rattle.listing.specs.declared.lines.Amount.{Amount}
use Rattle.listing.specs.Lines.{in_all, values, names_line, leg_lines, listing_text}
use Rattle.listing.proofs.lines.put_listing.Goals as goal

module _ (page : Front ℕ) (items : List Amount) (total : Amount) (room : Fits page (listing_text items)) (same : total ≡ in_all items) where
  -- what is left at first, with the total as it was handed over
  at_first : Left page (listing_text items) page (names_line ++ (leg_lines 1 items ++ (codes "all" ++ values total)))
  unfolding listing_text
  at_first = left_as _ _ _ _ _ (ap (λ (a : Amount). names_line ++ (leg_lines 1 items ++ (codes "all" ++ values a))) (sym same)) (all_left _ _ room)

  module _ (named : Front ℕ) (a : Added page names_line named) where
    after_names : Left page (listing_text items) named (leg_lines 1 items ++ (codes "all" ++ values total))
    after_names = others_left _ _ _ _ _ _ at_first a

    module _ (lined : Front ℕ) (b : Added named (leg_lines 1 items) lined) where
      after_legs : Left page (listing_text items) lined (codes "all" ++ values total)
      after_legs = others_left _ _ _ _ _ _ after_names b

pub put-requires : goal.put-requires
unfolding names_line
put-requires c = first_fits _ _ _ names_line _ (at_first _ c.args.amounts.now c.args.total c.requires.room c.requires.total)

pub put_legs-requires : goal.put_legs-requires
unfolding names_line
put_legs-requires c = first_fits _ _ _ _ _ (after_names _ _ c.args.total c.requires.room c.requires.total _ c.put.ensures)

pub put-requires-2 : goal.put-requires-2
unfolding names_line
put-requires-2 c = first_fits _ _ _ (codes "all") _ (after_legs _ _ c.args.total c.requires.room c.requires.total _ c.put.ensures _ c.put_legs.ensures)

pub put_values-requires : goal.put_values-requires
unfolding names_line
put_values-requires c = (others_left _ _ _ (codes "all") _ _ (after_legs _ _ _ c.requires.room c.requires.total _ c.put.ensures _ c.put_legs.ensures) c.put-2.ensures).fits

pub returns : goal.returns
unfolding names_line
returns c = (others_left _ _ _ (codes "all") _ _ (after_legs _ _ _ c.requires.room c.requires.total _ c.put.ensures _ c.put_legs.ensures) c.put-2.ensures).rest _ c.put_values.ensures
