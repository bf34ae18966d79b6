-- A leg leads to the next cell, and the last one to the panel.
use Rattle.std.proofs.Common.{◌≡◌, ◌+◌, ◌%◌, length, get_or, ap, ◌∙◌, sym, inl, inr, arith}
use Rattle.std.proofs.Math.Nat.{mod-eq_of_lt, mod_self}
use Rattle.std.proofs.lemmas.Bool.{cases_lt}
use Rattle.floor.specs.declared.Cell.{Cell}
use Rattle.planner.specs.Touring.{between}
use Rattle.planner.proofs.Legs.{leg_next, leg_last}
use Rattle.planner.proofs.touring.leg_ends.Goals as goal

pub returns : goal.returns
returns c l =
    let x : Cell = record { row = 0; col = 0 } in
    let cells = c.args.cells.now in
    let i = c.args.leg in
    let either = cases_lt (i + 1) (length cells) in
    elim either [
      | inl h ↦ leg_next cells i x l h ∙ ap (λ k. between (get_or cells i x) (get_or cells k x)) (sym (mod-eq_of_lt h))
      | inr m ↦ let h : i + 1 ≡ length cells = omega arith in leg_last cells i x l h ∙ ap (λ k. between (get_or cells i x) (get_or cells k x)) (sym (ap (λ k. k % length cells) h ∙ mod_self (length cells)))
    ]
