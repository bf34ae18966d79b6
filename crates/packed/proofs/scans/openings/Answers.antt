use Rattle.std.proofs.Common.{◌≡◌, ap, ◌∙◌, arith, rules}
use Rattle.packed.specs.Scans.{next_word}
use Rattle.packed.proofs.Scanning.{from_word, opens_word}
use Rattle.packed.proofs.scans.openings.Goals as goal

pub returns : goal.returns
returns c = λ i h.
    let next = c.next_word.ensures ∙ ap (λ way. next_word way c.args.word) c.turned.ensures in
    let read : c.map_or-last.result ≡ from_word c.args.line.now c.next_word.result = search rules in
    opens_word c.args.line.now c.args.way c.args.word i _ _ c.requires h (omega arith) (read ∙ ap (from_word c.args.line.now) next) (c.moved_on.ensures i h)
