-- What a length and a route are answered, by the plan of that moment: in the words of cells, routes and costs.
use Rattle.std.specs.Prelude.{◌≡◌, ℕ, List, [], map, Some, None, Ok, Err, Option, Result}
use Rattle.floor.specs.declared.Cell.{Cell}
use Rattle.floor.specs.declared.Counts.{Counts}
use Rattle.floor.specs.declared.Heading.{Heading}
use Rattle.floor.specs.Plane.{point}
use Rattle.floor.specs.Plans.{Plan, opens}
use Rattle.floor.specs.Routes.{end, tally, corners, Laying, Walk, Laid}
use Rattle.rate.specs.declared.Comparison.{Comparison}
use Rattle.cheapest.specs.Cheapest.{Cheapest}
use Rattle.lengths.specs.declared.answers.Refusal.{Refusal}
use Rattle.lengths.specs.declared.answers.Refusal.TheVariants.{NoRoute}
use Rattle.lengths.specs.declared.answers.Measured.{Measured}
use Rattle.lengths.specs.declared.answers.Drawn.{Drawn}
use Rattle.lengths.specs.Questions.{first_no, length_questions, route_questions}

-- the counts of a length, or its refusal
abbrev pub costs : Result Measured Refusal → Result Counts Refusal
costs (Ok n) = Ok n.counts
costs (Err e) = Err e

-- the same of a route
abbrev pub drawn_costs : Result Drawn Refusal → Result Counts Refusal
drawn_costs (Ok n) = Ok n.measured.counts
drawn_costs (Err e) = Err e

-- how many corners were written, none of them where a route is refused
abbrev pub corner_count : Result Drawn Refusal → ℕ
corner_count (Ok n) = n.corners
corner_count (Err e) = 0

module _ (order : Counts → Counts → Comparison) (may : Laying) where
  -- Once the questions are put: the first refusal; else the counts of a cheapest route, and no route only if there is none.
  abbrev pub CostTold : Plan → Cell → Cell → Option Refusal → Result Counts Refusal → Type 0
  CostTold p s t (Some e) r = r ≡ Err e
  CostTold p s t None (Ok n) = Cheapest order may p s t n
  CostTold p s t None (Err e) = (e ≡ NoRoute) × ((n : Counts) → Laid may (opens p) (point s) (point t) n → ⊥)

-- a length with work lists of lengths w and v
abbrev pub LengthTold : (Counts → Counts → Comparison) → Laying → Plan → Cell → Cell → ℕ → ℕ → Result Counts Refusal → Type 0
LengthTold order may p s t w v r = CostTold order may p s t (first_no (length_questions p s t w v)) r

-- these cells are the corners of one route from s to t with these counts
pub record Bent (may : Laying) (p : Plan) (s t : Cell) (n : Counts) (cs : List Cell) : Type 0 where
  pub headings : List Heading
  pub walks : Walk may (opens p) (point s) headings
  pub ends : end (point s) headings ≡ point t
  pub counted : tally headings ≡ n
  pub bends : map point cs ≡ corners (point s) headings

-- a route with a corner list of length c: the counts as for a length, and the corners, none of them where it is refused
abbrev pub RouteTold : (Counts → Counts → Comparison) → Laying → Plan → Cell → Cell → ℕ → ℕ → ℕ → List Cell → Result Counts Refusal → Type 0
RouteTold order may p s t w v c cs r =
    CostTold order may p s t (first_no (route_questions p s t w v c)) r × elim r [ Ok n ↦ Bent may p s t n cs | Err e ↦ cs ≡ [] ]
