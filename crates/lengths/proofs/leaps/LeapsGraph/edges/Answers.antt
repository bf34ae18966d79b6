-- From the start every heading is taken, from a place those of its goings: in either case just those in which the position goes on.
use Rattle.std.proofs.Common.{◌≡◌, Bool, List, Option, ap, ◌∙◌, subst, rules}
use Rattle.floor.specs.declared.Cell.{Cell}
use Rattle.floor.specs.Plane.{point}
use Rattle.floor.specs.Plans.{Plan}
use Rattle.floor.specs.Places.{Position, start, place, spot, goes_on}
use Rattle.pruning.specs.Goings.{taken, Goings}
use Rattle.search.specs.declared.graph.Position.TheVariants.{Place}
use Rattle.search.specs.declared.graph.Edge.{Edge}
use Rattle.search.specs.Chain.{Edges}
use Rattle.places.specs.Leaps.{cell_of, stands, leaps}
use Rattle.lengths.proofs.leaps.LeapsGraph.edges.Goals as goal

by_goings : (p : Plan) (t : Cell) (at : Position) (on : List Bool) (es : List (Option Edge)) → Goings p at on → Edges (leaps p t (spot at) (taken on)) es → Edges (leaps p t (spot at) (goes_on p at)) es
by_goings p t at on es goings = subst (λ goes. Edges (leaps p t (spot at) goes) es) (λ i h. goings h i)

pub returns-in-Start : goal.returns-in-Start
returns-in-Start g c =
    let f = c.args.self.now in
    let p = g.S.JumpSource.meaning f.source.now in
    rw c.in-Start.is (by_goings p f.target (start (point f.start)) c.goings_from_start.result _ (c.goings_from_start.ensures p f.start) c.leaps_from.ensures)

pub returns-in-Place : goal.returns-in-Place
returns-in-Place g c =
    let f = c.args.self.now in
    let p = g.S.JumpSource.meaning f.source.now in
    let k = c.in-Place.number in
    let es = c.leaps_from-in-Place.result in
    let there = c.numbered-place.ensures in
    let at = place (point c.numbered-place.result.cell) c.numbered-place.result.heading in
    let cell : c.numbered-place.result.cell ≡ cell_of p.cols k = there.cell ∙ ap (λ w. cell_of w k) (search rules) in
    let known : at ≡ stands p.cols f.start (Place k) = λ i. place (point (cell i)) (there.heading i) in
    rw c.in-Place.is (subst (λ z. Edges (leaps p f.target (spot z) (goes_on p z)) es) known (by_goings p f.target at c.goings_from_place-taken.result es c.goings_from_place-taken.ensures c.leaps_from-in-Place.ensures))
