-- What the numbers of a query and of a reply stand for.
use Rattle.std.specs.Prelude.{Bool, cond, Ok, Err, Result, ◌==◌}
use Rattle.floor.specs.declared.Cell.{Cell}
use Rattle.lengths.specs.declared.answers.Refusal.{Refusal}
use Rattle.lengths.specs.declared.answers.Measured.{Measured}
use Rattle.lengths.specs.Questions.{number}
use Rattle.boundary.specs.declared.numbers.Action.{Action}
use Rattle.boundary.specs.declared.numbers.Action.TheVariants.{Close, Open, Measure}
use Rattle.boundary.specs.declared.numbers.Query.{Query}
use Rattle.boundary.specs.declared.numbers.Reply.{Reply}

-- 0 closes a cell, 1 opens it, any other number asks for a length
abbrev pub action_in : Query → Action
action_in q = cond (q.what == 0) Close (cond (q.what == 1) Open Measure)

-- the cell that is opened or closed, or from which a length is asked
abbrev pub cell_in : Query → Cell
cell_in q = record { row = q.row; col = q.col }

-- the cell to which a length is asked
abbrev pub target_in : Query → Cell
target_in q = record { row = q.target_row; col = q.target_col }

-- a refusal, by its number
abbrev pub refusal_reply : Refusal → Reply
refusal_reply e = record { refusal = number e; changed = 0; straight = 0; diagonal = 0; finished = 0 }

-- the reply to an open or a close: 1 where the cell changed
abbrev pub change_reply : Result Bool Refusal → Reply
change_reply (Ok b) = record { refusal = 0; changed = cond b 1 0; straight = 0; diagonal = 0; finished = 0 }
change_reply (Err e) = refusal_reply e

-- the reply to a length
abbrev pub length_reply : Result Measured Refusal → Reply
length_reply (Ok n) = record { refusal = 0; changed = 0; straight = n.counts.straight; diagonal = n.counts.diagonal; finished = n.finished }
length_reply (Err e) = refusal_reply e
