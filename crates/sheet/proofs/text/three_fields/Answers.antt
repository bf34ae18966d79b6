-- Each call takes the first of the fields that are left.
use Rattle.std.proofs.Common.{rules, tests}
use Rattle.std.proofs.lemmas.Iterator.Splits.{YieldsList-from_slice_split}
use Rattle.sheet.specs.Format.{fields}
use Rattle.sheet.proofs.Splits.{one_piece, two_pieces, three_pieces, more_pieces}
use Rattle.sheet.proofs.text.three_fields.Goals as goal

pub returns-in_err-next-2 : goal.returns-in_err-next-2
returns-in_err-next-2 c =
    rw c.from_residual-in_err-next-2.ensures
    (one_piece c.split-fields.result c.next.new.self c.in_ok-next.field-0 c.next-2.new.self (fields c.args.line.now) (YieldsList-from_slice_split _ _ c.args.line.now c.split-fields.ensures.rest c.split-fields.ensures.done c.split-fields.ensures.closure (λ x r q k. search (rules, tests))) c.in_ok-next.ensures.steps c.in_err-next-2.ensures.steps)

pub returns-in_err-next-3 : goal.returns-in_err-next-3
returns-in_err-next-3 c =
    rw c.from_residual-in_err-next-3.ensures
    (two_pieces c.split-fields.result c.next.new.self c.in_ok-next.field-0 c.next-2.new.self c.in_ok-next-2.field-0 c.next-3.new.self (fields c.args.line.now) (YieldsList-from_slice_split _ _ c.args.line.now c.split-fields.ensures.rest c.split-fields.ensures.done c.split-fields.ensures.closure (λ x r q k. search (rules, tests))) c.in_ok-next.ensures.steps c.in_ok-next-2.ensures.steps c.in_err-next-3.ensures.steps)

pub returns-in-None : goal.returns-in-None
returns-in-None c =
    three_pieces c.split-fields.result c.next.new.self c.in_ok-next.field-0 c.next-2.new.self c.in_ok-next-2.field-0 c.next-3.new.self c.in_ok-next-3.field-0 c.next-4.new.self (fields c.args.line.now) (YieldsList-from_slice_split _ _ c.args.line.now c.split-fields.ensures.rest c.split-fields.ensures.done c.split-fields.ensures.closure (λ x r q k. search (rules, tests))) c.in_ok-next.ensures.steps c.in_ok-next-2.ensures.steps c.in_ok-next-3.ensures.steps c.in-None.ensures.steps

pub returns-in-Some : goal.returns-in-Some
returns-in-Some c =
    more_pieces c.split-fields.result c.next.new.self c.in_ok-next.field-0 c.next-2.new.self c.in_ok-next-2.field-0 c.next-3.new.self c.in_ok-next-3.field-0 c.next-4.new.self c.in-Some.field-0 (fields c.args.line.now) (YieldsList-from_slice_split _ _ c.args.line.now c.split-fields.ensures.rest c.split-fields.ensures.done c.split-fields.ensures.closure (λ x r q k. search (rules, tests))) c.in_ok-next.ensures.steps c.in_ok-next-2.ensures.steps c.in_ok-next-3.ensures.steps c.in-Some.ensures.steps
