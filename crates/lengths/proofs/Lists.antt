-- What one call after another leaves alone of the work lists is what both do.
use Rattle.std.proofs.Common.{refl, ◌∙◌}
use Rattle.floor.specs.Plans.{Plan}
use Rattle.search.specs.declared.Work.{Work}
use Rattle.search.specs.Work.{SameLists}
use Rattle.lengths.specs.Lists.{Spared}

pub spared_none : (p : Plan) (x : Work) → Spared p x x
spared_none p x = record { lists = record { entries = refl; waiting = refl; places = refl; room = refl }; entries = refl; waiting = refl }

lists_on : (x y z : Work) → SameLists x y → SameLists y z → SameLists x z
lists_on x y z a b = record { entries = b.entries ∙ a.entries; waiting = b.waiting ∙ a.waiting; places = b.places ∙ a.places; room = b.room ∙ a.room }

pub spared_on : (p : Plan) (x y z : Work) → Spared p x y → Spared p y z → Spared p x z
spared_on p x y z a b = record { lists = lists_on x y z a.lists b.lists; entries = b.entries ∙ a.entries; waiting = b.waiting ∙ a.waiting }
