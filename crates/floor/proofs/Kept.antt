-- The facts about routes, put together.
use Rattle.std.proofs.Common.{◌≡◌, ◌≤◌, Bool, true, false, cond, ◌&&◌, eqb, ltb, refl, ap, ◌∙◌, subst, arith}
use Rattle.std.proofs.lemmas.Nat.{mul-le}
use Rattle.std.proofs.lemmas.Bool.{and_parts, eqb-true}
use Rattle.floor.specs.declared.Counts.{Counts}
use Rattle.floor.specs.Plane.{Point}
use Rattle.floor.specs.Plans.{Plan, opens}
use Rattle.floor.specs.Routes.{end, cells, tally, Laying, Laid, Fair}
use Rattle.floor.specs.Facts.{Simple, RoutesKeep, SixteenThousand, MarksOneCell}
use Rattle.floor.proofs.Walks.{joined, turned_round, grown}
use Rattle.floor.proofs.Simple.{Cut, cut, cells_steps, few_cells, all_open}

module _ (may : Laying) (fair : Fair may) where
  pub shorten : (p : Plan) (s t : Point) (n : Counts) → Laid may (opens p) s t n → Simple may p s t n
  shorten p s t n r =
      let c : Cut may (opens p) s (end s r.headings) (tally r.headings) = cut may (opens p) s r.headings r.walks in
      let l = few_cells p (cells s c.headings) (all_open p may fair s c.headings r.starts c.walks) c.distinct in
      let m = cells_steps s c.headings in
      record {
        counts = tally c.headings;
        route = record { headings = c.headings; starts = r.starts; walks = c.walks; ends = c.ends ∙ r.ends; counted = refl };
        distinct = c.distinct;
        straights = subst (λ k. (tally c.headings).straight ≤ k.straight) r.counted c.straights;
        diagonals = subst (λ k. (tally c.headings).diagonal ≤ k.diagonal) r.counted c.diagonals;
        few = omega arith;
      }

  pub routes_keep : RoutesKeep may
  routes_keep = record {
    join = λ p s m t a b. joined may (opens p);
    turn_round = λ p s t n. turned_round may (opens p) fair;
    stay = λ p q grow s t n. grown may fair (opens p) (opens q) grow;
    shorten = shorten;
  }

pub sixteen_thousand : SixteenThousand
sixteen_thousand p z n l = let m = mul-le p.rows p.cols 128 128 z.few_rows z.few_cols in omega arith

-- the cell that is set is inside, and every other is asked as before
pub marks_one_cell : MarksOneCell
marks_one_cell p c d b i = both (eqb d.row c.row && eqb d.col c.col) refl
  where
    both : (t : Bool) → (eqb d.row c.row && eqb d.col c.col) ≡ t →
        ((ltb d.row p.rows && ltb d.col p.cols) && cond t b (p.free d.row d.col)) ≡ cond t b ((ltb d.row p.rows && ltb d.col p.cols) && p.free d.row d.col)
    both true e =
        let h = and_parts _ _ e in
        ap (λ z. z && b) (ap (λ z. ltb z p.rows && ltb d.col p.cols) (eqb-true _ _ h.0) ∙ ap (λ z. ltb c.row p.rows && ltb z p.cols) (eqb-true _ _ h.1) ∙ i)
    both false e = refl
