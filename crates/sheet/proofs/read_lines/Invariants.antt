-- What is left means what the whole does; each turn reads a line of it.
use Rattle.std.proofs.Common.{◌+◌, length, drop}
use Rattle.std.proofs.lemmas.Iterator.{YieldsList}
use Rattle.sheet.specs.Format.{pieces}
use Rattle.sheet.specs.Meaning.{read_lines}
use Rattle.sheet.proofs.Steps.{Sofar}
use Rattle.sheet.proofs.read_lines.Given as goal

abbrev pub invariant-loop-line : goal.invariant-loop-line
invariant-loop-line l = record {
  left : YieldsList (goal.iterator-loop-line).next_gives (λ x. x.now) l.line-iterator (drop (l.count + 1) (pieces 10 l.text));
  read : Sofar l.names (read_lines (pieces 10 l.text)) (length (pieces 10 l.text)) l.initial.entries l.entries l.count (drop (l.count + 1) (pieces 10 l.text));
}
