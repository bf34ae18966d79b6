use Rattle.std.proofs.Common.{◌≡◌, ℕ, suc, ◌+◌, ◌-◌, sym, ap, ◌∙◌, arith}
use Rattle.packed.specs.Layout.{word_of}
use Rattle.packed.specs.Scans.{seen, line_at}
use Rattle.packed.proofs.Copying.{line_follows, outside_closed, line_before_none, no_line}
use Rattle.packed.proofs.copies.lines_around.Goals as goal
use Rattle.packed.proofs.copies.lines_around.Goals.{then-line-gt0, else-line-gt0, then-line-half, else-line-half}

pub returns : goal.returns
returns c =
    let words = c.args.words.now in
    let half = c.args.half in
    let line = c.args.line in
    let before : (q : ℕ) → seen c.if-line-gt0.before q ≡ line_at words half line q = λ q. elim c.if-line-gt0.branch [
      | then-line-gt0 w ↦
          let some = w.if-line-gt0.true in
          let is : suc (line - 1) ≡ line = omega arith in
          let at : word_of half line 0 ≡ word_of half (line - 1) 0 + c.line_words-wide.result = ap (λ l. word_of half l 0) (sym is) ∙ line_follows half (line - 1) ∙ ap (λ n. word_of half (line - 1) 0 + n) (sym c.line_words-wide.ensures) in
          ap (λ v. seen v q) w.before-is ∙ w.copy_line-before.ensures half (line - 1) (omega arith) c.requires.short c.line_words-wide.ensures (omega (arith, at, c.word_of-from.ensures)) q ∙ ap (λ l. line_at words half l q) is
      | else-line-gt0 w ↦
          let first : line ≡ 0 = let z = w.if-line-gt0.false in omega arith in
          ap (λ v. seen v q) w.before-is ∙ outside_closed q ∙ sym (line_before_none words half q) ∙ ap (λ l. line_at words half l q) (sym first)
    ] in
    let after : (q : ℕ) → seen c.if-line-half.after q ≡ line_at words half (suc (suc line)) q = λ q. elim c.if-line-half.branch [
      | then-line-half w ↦
          let some = w.if-line-half.true in
          let at : word_of half (suc line) 0 ≡ word_of half line 0 + c.line_words-wide.result = line_follows half line ∙ ap (λ n. word_of half line 0 + n) (sym c.line_words-wide.ensures) in
          ap (λ v. seen v q) w.after-is ∙ w.copy_line-after.ensures half (suc line) (omega arith) c.requires.short c.line_words-wide.ensures (omega (arith, at, c.word_of-from.ensures)) q
      | else-line-half w ↦
          let last = w.if-line-half.false in
          ap (λ v. seen v q) w.after-is ∙ outside_closed q ∙ sym (no_line words half (suc line) (omega arith) q)
    ] in
    record {
      before = before;
      here = c.copy_line.ensures half line c.requires.inside c.requires.short c.line_words-wide.ensures c.word_of-from.ensures;
      after = after;
    }
