-- What it is to write a piece at a place of a lent list.
use Rattle.std.specs.Prelude.{◌≡◌, ℕ, ◌+◌, ◌≤◌, List, ◌++◌, length, take, drop}
use Rattle.writing.specs.declared.Front.{Front}

-- the list with a piece written at a place; before and past it, the list is as it was
abbrev pub put : {X : Type 0} → List X → ℕ → List X → List X
put list at piece = take at list ++ (piece ++ drop (at + length piece) list)

-- the list with a piece written over its front
abbrev pub over : {X : Type 0} → List X → List X → List X
over piece list = piece ++ drop (length piece) list

-- a piece was written at a place, and the next place is the one after it
pub record Wrote {X : Type 0} (before : List X) (at : ℕ) (piece after : List X) (next : ℕ) : Type 0 where
  pub list : after ≡ put before at piece
  pub on : next ≡ at + length piece

-- a piece fits after what is written
pub record Fits {X : Type 0} (front : Front X) (piece : List X) : Type 0 where
  pub room : front.len + length piece ≤ length front.list.now

-- a piece was written after what is written, to the same lent list
pub record Added {X : Type 0} (before : Front X) (piece : List X) (after : Front X) : Type 0 where
  pub same : after.list.ghost_name ≡ before.list.ghost_name
  pub wrote : Wrote before.list.now before.len piece after.list.now after.len
