-- What a reading says of a text, as it is answered.
use Rattle.std.proofs.Common.{rules, ◌≡◌, length}
use Rattle.sheet.specs.Meaning.{reading_of, answered, over}
use Rattle.sheet.proofs.Faulted.{as_read}
use Rattle.sheet.proofs.read.Goals as goal
use Rattle.sheet.proofs.read.Goals.{After-read_lines}

answer : (c : After-read_lines) → c.read_lines.result ≡ answered (reading_of c.args.sheet.now (length c.args.entries.now))
answer c = search rules

list : (c : After-read_lines) → c.read_lines.new.entries ≡ over (reading_of c.args.sheet.now (length c.args.entries.now)).meant c.args.entries.now
list c = search rules

pub returns-clause-right : goal.returns-clause-right
returns-clause-right c = let here = (goal.at.returns-clause-right c).After-read_lines in (as_read c.args.sheet.now c.args.entries.now _ _ (answer here) (list here)).0

pub returns-clause-refused : goal.returns-clause-refused
returns-clause-refused c = let here = (goal.at.returns-clause-refused c).After-read_lines in (as_read c.args.sheet.now c.args.entries.now _ _ (answer here) (list here)).1
