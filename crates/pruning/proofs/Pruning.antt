-- The theorems, put together: a route is pruned, and the pruned route is a chain.
use Rattle.std.proofs.Common.{◌≡◌, true, ◌∙◌, subst}
use Rattle.floor.specs.declared.Cell.{Cell}
use Rattle.floor.specs.declared.Counts.{Counts}
use Rattle.floor.specs.Tally.{Dominates}
use Rattle.floor.specs.Plane.{Point, point}
use Rattle.floor.specs.Plans.{Plan, opens, is_open, legal}
use Rattle.floor.specs.Routes.{end, tally, Laid}
use Rattle.pruning.specs.Claims.{Linked, NoCheaperRunIsLost, EveryChainIsARoute, SameReach, SuccessorsAreLeaps, ChainsStandOnOpenCells}
use Rattle.pruning.proofs.Prune.{Better, prune}
use Rattle.pruning.proofs.Leaps.{complete}
use Rattle.pruning.proofs.Sound.{leap_is, sound, stands}

-- every legal route is dominated by a chain
pub enough : (p : Plan) (s t : Point) (n : Counts) → Laid legal (opens p) s t n → (m : Counts) × Linked p s t m × Dominates m n
enough p s t n r =
    let b : Better (opens p) s (end s r.headings) r.headings = prune (opens p) s r.headings r.walks in
    (tally b.route, complete p s t b.route b.good.walks b.good.pruned (b.good.ends ∙ r.ends), subst (Dominates (tally b.route)) r.counted b.bound)

pub no_cheaper_run_is_lost : NoCheaperRunIsLost
no_cheaper_run_is_lost p s t n r = enough p (point s) (point t) n r

pub every_chain_is_a_route : EveryChainIsARoute
every_chain_is_a_route p s t at n o c = sound p (point s) (point t) at n o c

pub same_reach : (p : Plan) (s t : Cell) → is_open p s ≡ true → SameReach p s t
same_reach p s t o =
    record {
      chain_for = λ r. let e = no_cheaper_run_is_lost p s t r.0 r.1 in (e.0, e.1);
      route_for = λ c. (c.0, subst (λ y. Laid legal (opens p) (point s) y c.0) c.1.arrives (every_chain_is_a_route p s t c.1.last c.0 o c.1.chain));
    }

pub successors_are_leaps : SuccessorsAreLeaps
successors_are_leaps p t x h k e = leap_is p t x h k e

pub chains_stand_on_open_cells : ChainsStandOnOpenCells
chains_stand_on_open_cells p s t x h n c = stands p s t x h n c
