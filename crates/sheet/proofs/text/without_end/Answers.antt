-- The line feed at the end is stripped, or none is there.
use Rattle.std.proofs.Common.{[], ◌∷◌, ap, ◌∙◌}
use Rattle.std.proofs.lemmas.Bool.Decides.{Decides-eqb}
use Rattle.std.proofs.lemmas.Slice.Eq.{strip_suffix_is}
use Rattle.sheet.proofs.Splits.{front_of}
use Rattle.sheet.proofs.text.without_end.Goals as goal

pub returns : goal.returns
returns c =
    ap (λ b. b.now) c.unwrap_or.ensures
    ∙ front_of c.args.text c.strip_suffix.result (strip_suffix_is Decides-eqb c.args.text.now (10 ∷ []) c.strip_suffix.result c.strip_suffix.ensures.cases)
