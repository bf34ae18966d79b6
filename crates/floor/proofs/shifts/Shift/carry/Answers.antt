use Rattle.std.proofs.Common.{◌≡◌, ◌-◌, pos, sym, ap, ◌∙◌, subst, arith}
use Rattle.floor.proofs.Shifting.{Apart, apart}
use Rattle.floor.proofs.shifts.Shift.carry.Goals as goal
use Rattle.floor.specs.declared.shifts.Shift.TheVariants.{Less, Same, More}

-- what the caller promises, by the kind of shift
less : (c : goal.In-Less) → Apart Less c.args.steps c.args.from c.requires.0
less c = subst (λ d. Apart d c.args.steps c.args.from c.requires.0) c.in-Less.is (apart c.args.self _ _ _ (sym c.requires.2))

same : (c : goal.In-Same) → Apart Same c.args.steps c.args.from c.requires.0
same c = subst (λ d. Apart d c.args.steps c.args.from c.requires.0) c.in-Same.is (apart c.args.self _ _ _ (sym c.requires.2))

more : (c : goal.In-More) → Apart More c.args.steps c.args.from c.requires.0
more c = subst (λ d. Apart d c.args.steps c.args.from c.requires.0) c.in-More.is (apart c.args.self _ _ _ (sym c.requires.2))

pub overflow_sub-result : goal.overflow_sub-result
overflow_sub-result c = omega (arith, less c)

pub overflow_add-result : goal.overflow_add-result
overflow_add-result c = omega (arith, more c, c.requires.1)

pub returns-in-Less : goal.returns-in-Less
returns-in-Less c = let e : c.args.from - c.args.steps ≡ c.requires.0 = omega (arith, less c) in ap pos e ∙ c.requires.2

pub returns-in-Same : goal.returns-in-Same
returns-in-Same c = ap pos (sym (same c)) ∙ c.requires.2

pub returns-in-More : goal.returns-in-More
returns-in-More c = ap pos (sym (more c)) ∙ c.requires.2
