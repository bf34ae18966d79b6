use Rattle.floor.proofs.Shifting.{meets_less, meets_more}
use Rattle.floor.proofs.shifts.Shift.steps_between.Goals as goal

pub returns-in-Less : goal.returns-in-Less
returns-in-Less c = meets_less c.args.from c.args.to c.in-Less.is c.past.ensures

pub returns-in-Same : goal.returns-in-Same
returns-in-Same c = λ moves. absurd (moves c.in-Same.is)

pub returns-in-More : goal.returns-in-More
returns-in-More c = meets_more c.args.from c.args.to c.in-More.is c.past-in-More.ensures
