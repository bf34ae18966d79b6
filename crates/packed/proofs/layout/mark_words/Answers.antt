use Rattle.std.proofs.Common.{refl}
use Rattle.std.proofs.lemmas.List.{length-set}
use Rattle.packed.proofs.Marking.{across_in, down_in, marking}
use Rattle.packed.proofs.layout.mark_words.Goals as goal

pub bounds-words-across : goal.bounds-words-across
bounds-words-across c = (across_in _ _ _ _ c.requires.inside.0 c.requires.inside.1 c.requires.laid _ _ c.by_rows.ensures c.word_of-across.ensures).1

pub bounds-words-across-2 : goal.bounds-words-across-2
bounds-words-across-2 c = (across_in _ _ _ _ c.requires.inside.0 c.requires.inside.1 c.requires.laid _ _ c.by_rows.ensures c.word_of-across.ensures).1

pub bounds-words-down : goal.bounds-words-down
bounds-words-down c = simp length-set (down_in _ _ _ _ c.requires.inside.0 c.requires.inside.1 c.requires.laid _ _ c.by_columns.ensures c.word_of-down.ensures).1

pub bounds-words-down-2 : goal.bounds-words-down-2
bounds-words-down-2 c = simp length-set (down_in _ _ _ _ c.requires.inside.0 c.requires.inside.1 c.requires.laid _ _ c.by_columns.ensures c.word_of-down.ensures).1

pub returns : goal.returns
returns c =
    let across = across_in _ _ _ _ c.requires.inside.0 c.requires.inside.1 c.requires.laid _ _ c.by_rows.ensures c.word_of-across.ensures in
    let down = down_in _ _ _ _ c.requires.inside.0 c.requires.inside.1 c.requires.laid _ _ c.by_columns.ensures c.word_of-down.ensures in
    let marks = marking _ _ c.args.words.now.now c.args.cell c.requires.inside.0 c.requires.inside.1 c.requires.laid c.args.open _ _ _ _ across.0 down.0 c.with_bit.ensures c.with_bit-2.ensures in
    record { laid = marks.0; plan = marks.1; same = refl; rest = marks.2 }
