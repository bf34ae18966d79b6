use Rattle.std.proofs.Common.{◌≡◌, ℕ, ◌*◌, ◌%◌, ◌<◌, ◌≤◌, ◌++◌, cond, eqb, length, get_or, drop, List, refl, ◌∙◌, arith, rules}
use Rattle.std.proofs.lemmas.List.{get_or_append_left, length-take-le}
use Rattle.std.proofs.lemmas.Slice.{drop-append-drop}
use Rattle.source.proofs.Laid.{size_got}
use Rattle.table.specs.Layout.{needed}
use Rattle.table.proofs.Answering.{new_labelled, new_flagged, made_by}
use Rattle.table.proofs.layout.TableSource.make.Goals as goal
use Rattle.table.proofs.layout.TableSource.make.Goals.{After-close_all}

abbrev after : After-close_all → List ℕ
after c = c.close_all.new.numbers ++ drop (9 * c.cells.result) c.args.memory.now

enough : (c : After-close_all) → 9 * c.cells.result ≤ length c.args.memory.now
enough c = search rules

long : (c : After-close_all) → length c.close_all.new.numbers ≡ 9 * c.cells.result
long c = omega (arith, length-take-le (9 * c.cells.result) c.args.memory.now (enough c))

-- as many numbers are filled as the plan needs
filled : (c : After-close_all) → (k : ℕ) → k < needed c.unwrap_or-size.result.rows c.unwrap_or-size.result.cols → get_or (after c) k 0 ≡ cond (eqb (k % 9) 8) 0 32768
filled c k b =
    let within : k < length c.close_all.new.numbers = omega (arith, long c, c.cells.ensures) in
    get_or_append_left c.close_all.new.numbers _ 0 k within ∙ c.close_all.ensures k (omega (arith, within))

pub invariant_of-result : goal.invariant_of-result
invariant_of-result c =
    let fills = filled (goal.at.invariant_of-result c).After-close_all in
    record { fits = search rules; defined = record { labels = new_labelled _ _ _ fills; openings = new_flagged _ _ _ fills } }

pub returns-clause-plan : goal.returns-clause-plan
returns-clause-plan c =
    let at = (goal.at.returns-clause-plan c).After-close_all in
    made_by c.args.rows c.args.cols _ _ c.unwrap_or-size.result (size_got c.args.rows c.args.cols _ _ _ _ c.check.ensures.answer c.check.ensures.size (refl, refl) c.unwrap_or-size.ensures) (filled at)
    (drop-append-drop (9 * c.cells.result) c.args.memory.now c.close_all.new.numbers _ (omega (arith, c.cells.ensures)) (long at))
