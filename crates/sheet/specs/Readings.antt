-- Laws of whole sheets: which texts are read, and as what.
use Rattle.std.specs.Prelude.{◌≡◌, ◌↔◌, ℕ, ◌≤◌, List, [], ◌∷◌, ◌++◌, Some, None}
use Rattle.sheet.specs.declared.Entry.{Entry}
use Rattle.sheet.specs.declared.columns.Names.{Names}
use Rattle.sheet.specs.declared.refusals.Refusal.{Refusal}
use Rattle.sheet.specs.Meaning.{reading, reading_of}
use Rattle.sheet.specs.Accepted.{Accepted}
use Rattle.sheet.specs.Laws.{EachOnce}
use Rattle.sheet.specs.Faults.{Fitting, Faulty, Right}
use Rattle.sheet.specs.Written.{text_of}

-- What holds of every text and every room.
pub record ReadingLaws : Type 0 where
  -- a text is read, as entries, exactly if it fits, its lines are right, and they say these entries
  pub right : (text : List ℕ) (room : ℕ) (es : List Entry) →
      Fitting text room × Right text es ↔ (reading_of text room ≡ reading es None)
  -- a text is refused, after entries, exactly by its first fault, and those are the entries of the lines before it
  pub refused : (text : List ℕ) (room : ℕ) (es : List Entry) (fault : Refusal) →
      Faulty text room es fault ↔ (reading_of text room ≡ reading es (Some fault))
  -- whatever entries a sheet can have, the text written from them is read as just these, in every order of the columns
  pub read_back : (names : Names) (es : List Entry) (room : ℕ) → EachOnce names → Accepted es → 256 ≤ room →
      reading_of (text_of names es) room ≡ reading es None
  -- so it is with a line feed at the end
  pub read_back_ended : (names : Names) (es : List Entry) (room : ℕ) → EachOnce names → Accepted es → 256 ≤ room →
      reading_of (text_of names es ++ 10 ∷ []) room ≡ reading es None
