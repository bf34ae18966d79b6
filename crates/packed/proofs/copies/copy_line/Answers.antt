-- A line has no word, one or two; the copy has these, and closed places beyond.
use Rattle.std.proofs.Common.{◌≡◌, ◌+◌, ◌≤◌, get_or, sym, ap, ◌∙◌, subst, arith}
use Rattle.packed.specs.Layout.{line_words, word_of}
use Rattle.packed.proofs.Copying.{copied_none, copied_one, copied_two}
use Rattle.packed.proofs.copies.copy_line.Goals as goal

pub returns-in-0 : goal.returns-in-0
returns-in-0 c = λ half line inside short wide from. copied_none c.args.words.now half line inside short (sym wide ∙ c.in-0.is)

pub returns-in-1 : goal.returns-in-1
returns-in-1 c = λ half line inside short wide from.
    let at : c.args.from ≡ word_of half line 0 + 0 = omega (arith, from) in
    copied_one c.args.words.now half line inside short _ (sym wide ∙ c.in-1.is) (ap (λ n. get_or c.args.words.now n 0) at)

pub returns-in_default : goal.returns-in_default
returns-in_default c = λ half line inside short wide from.
    let at : c.args.from ≡ word_of half line 0 + 0 = omega (arith, from) in
    let many : 2 ≤ c.args.wide = omega arith in
    let two : 2 ≤ line_words half.long = subst (λ n. 2 ≤ n) wide many in
    copied_two c.args.words.now half line inside short _ _ two (ap (λ n. get_or c.args.words.now n 0) at) (ap (λ n. get_or c.args.words.now (n + 1) 0) from)
