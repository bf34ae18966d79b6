-- The lists that a search is lent.
use Rattle.std.specs.Prelude.{◌≡◌, length}
use Rattle.search.specs.declared.Work.{Work}

-- they are the same lent memory, and as long as before
pub record SameLists (old new : Work) : Type 0 where
  pub entries : new.entries.ghost_name ≡ old.entries.ghost_name
  pub waiting : new.waiting.ghost_name ≡ old.waiting.ghost_name
  pub places : length new.entries.now ≡ length old.entries.now
  pub room : length new.waiting.now ≡ length old.waiting.now
