-- The work lists that a call is lent, and what it leaves alone of them.
use Rattle.std.specs.Prelude.{◌≡◌, ◌≤◌, List, length, take, drop, Result, IfErr, ◌≢◌}
use Rattle.floor.specs.Plans.{Plan}
use Rattle.search.specs.declared.Work.{Work}
use Rattle.search.specs.Work.{SameLists}
use Rattle.lengths.specs.declared.answers.Refusal.{Refusal}
use Rattle.lengths.specs.declared.answers.Refusal.TheVariants.{NoRoute}
use Rattle.lengths.specs.Questions.{places}

-- a work list has an entry for every place
abbrev pub Roomy : {X : Type 0} → Plan → List X → Type 0
Roomy p xs = places p ≤ length xs

-- the entries of all places
abbrev pub of_places : {X : Type 0} → Plan → List X → List X
of_places p xs = take (places p) xs

-- they are the same lists, and what lies past the entries of all places is spared
pub record Spared (p : Plan) (old new : Work) : Type 0 where
  pub lists : SameLists old new
  pub entries : drop (places p) new.entries.now ≡ drop (places p) old.entries.now
  pub waiting : drop (places p) new.waiting.now ≡ drop (places p) old.waiting.now

-- Every refusal but that of no route comes before the search, so the lists stay as they were.
abbrev pub Untouched : {A : Type 0} → Work → Work → Result A Refusal → Type 0
Untouched old new r = IfErr r (λ e. (e ≢ NoRoute) → new ≡ old)
