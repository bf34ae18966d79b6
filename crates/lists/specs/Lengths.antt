-- How long owned lists are.
use Rattle.std.specs.Prelude.{vec_len}
use Rattle.lengths.specs.declared.asking.Room.{Room}
use Rattle.lists.specs.declared.Lists.{Lists}

-- the lengths of both
abbrev pub room_of : Lists → Room
room_of lists = record { entries = vec_len lists.entries; waiting = vec_len lists.waiting }
