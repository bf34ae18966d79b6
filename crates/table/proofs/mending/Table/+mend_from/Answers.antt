use Rattle.std.proofs.Common.{ℕ, [], ◌∷◌, sym, inl, inr, subst}
use Rattle.floor.specs.Plane.{point, step, opposite}
use Rattle.table.specs.Equations.{seed}
use Rattle.table.specs.Tables.{MendsOn, seed_at}
use Rattle.table.specs.declared.mending.Table.{Table}
use Rattle.table.proofs.Places.{Inside, inside_from}
use Rattle.table.proofs.Walks.{on, led, looked, stayed, back, followed, less}
use Rattle.table.proofs.mending.Table.+mend_from.Goals as goal
use Rattle.table.proofs.mending.Table.+mend_from.Goals.{in-Steps, in-Life+then-not-is_diagonal, in-Life+else-not-is_diagonal}

pub returns-in-Same : goal.returns-in-Same
returns-in-Same t c =
    on (subst (λ o. MendsOn c.args.self.now (seed_at c.args.from c.args.towards) c.loop-at.self (seed_at o c.args.towards)) c.in-Some.is c.loop-at.invariant)
    (stayed _ _ _ _ c.put_right.ensures.stays c.in-Same.ensures.put.0 c.in-Same.ensures.put.1)

-- a turn hands the seed on to the cell a step back
turned : (t : ℕ) (c : goal.After-stepped-at t) → MendsOn c.loop-at.self (seed (point c.in-Some.cell) c.args.towards ∷ [])
    c.match-put_right.self (seed (step (opposite c.args.towards) (point c.in-Some.cell)) c.args.towards ∷ [])
turned t c =
    let Turned : Table → Type 0 = λ b. MendsOn c.loop-at.self (seed (point c.in-Some.cell) c.args.towards ∷ []) b (seed (step (opposite c.args.towards) (point c.in-Some.cell)) c.args.towards ∷ []) in
    elim c.match-put_right.branch [
      | in-Steps w ↦ subst Turned (sym w.self-is) (back _ _ _ _ c.put_right.ensures.stays w.in-Steps.ensures.put.0 (inr w.in-Steps.ensures.put.1))
      | in-Life+else-not-is_diagonal w ↦ subst Turned (sym w.self-is) (back _ _ _ _ c.put_right.ensures.stays w.in-Life.ensures.put (inl (sym w.if-not-is_diagonal.ensures)))
      | in-Life+then-not-is_diagonal w ↦ subst Turned (sym w.self-is)
          (followed _ _ _ _ c.put_right.ensures.stays w.in-Life.ensures.put _ _ w.turn-left.ensures w.turn-right.ensures _ _
          (looked _ _ w.opposite.ensures w.stepped.ensures w.mend_from.ensures)
          (looked _ _ w.opposite-then-not-is_diagonal.ensures w.stepped-then-not-is_diagonal.ensures w.mend_from-then-not-is_diagonal.ensures))
    ]

inside_at : (t : ℕ) (c : goal.After-stepped-at t) → Inside c.loop-at.self.size.rows c.loop-at.self.size.cols c.in-Some.cell
inside_at t c = inside_from _ _ _ (elim c.match-put_right.branch [
  | in-Steps w ↦ w.in-Steps.ensures.put.0.within
  | in-Life+else-not-is_diagonal w ↦ w.in-Life.ensures.put.within
  | in-Life+then-not-is_diagonal w ↦ w.in-Life.ensures.put.within
])

pub loop-at-smaller : goal.loop-at-smaller
loop-at-smaller t c = less _ _ (turned t c).stays _ _ c.opposite-in-Some.ensures _ _ _ c.in-Some.is (inside_at t c) c.stepped-at.ensures

pub loop-at-preserved : goal.loop-at-preserved
loop-at-preserved t c =
    on (subst (λ o. MendsOn c.args.self.now (seed_at c.args.from c.args.towards) c.loop-at.self (seed_at o c.args.towards)) c.in-Some.is c.loop-at.invariant)
    (on (turned t c) (led _ _ _ _ _ _ c.opposite-in-Some.ensures c.stepped-at.ensures))
