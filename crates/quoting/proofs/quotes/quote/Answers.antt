-- A refusal is printed where nothing was yet.
use Rattle.std.proofs.Common.{refl, ap, ◌∙◌}
use Rattle.writing.specs.Fronts.{over}
use Rattle.writing.proofs.Fronts.{at_front}
use Rattle.quoting.specs.Faults.{refusal_text}
use Rattle.quoting.proofs.quotes.quote.Goals as goal

pub returns-in-Err-clause-quoted : goal.returns-in-Err-clause-quoted
returns-in-Err-clause-quoted c =
    let shown = at_front _ (refusal_text c.in-Err.refusal) _ _ c.put_refusal.ensures in
    let refused = c.in-Err.ensures.quoted in
    refused.1 _ _ (record { printed = record { long = shown.1; page = shown.0 ∙ ap (over (refusal_text c.in-Err.refusal)) refused.0 }; answered = refl })
