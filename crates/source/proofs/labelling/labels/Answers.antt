use Rattle.std.proofs.Common.{◌≡◌, ℕ, ◌+◌, ◌<◌, get_or, set, sym, ap, ◌∙◌, subst, arith, length-set}
use Rattle.std.proofs.lemmas.List.Edits.{fill_by_more}
use Rattle.floor.specs.Jumps.{jump_of}
use Rattle.floor.proofs.Jumps.{numbered_short}
use Rattle.source.specs.Labels.{label_of, said_by}
use Rattle.source.proofs.LabelLaws.{label_says}
use Rattle.source.proofs.labelling.labels.Goals as goal

pub loop-heading-preserved : goal.loop-heading-preserved
loop-heading-preserved g c =
    let f : ℕ → ℕ = λ h. label_of (jump_of (g.S.JumpSource.meaning c.args.source.now) c.args.cell h) in
    let made : c.label.result ≡ f c.loop-heading.heading = c.label.ensures.made ∙ ap label_of c.jump-steps.ensures in (
      simp length-set c.loop-heading.invariant.0,
      subst (λ v. (h : ℕ) → h < c.loop-heading.heading + 1 → get_or (set c.loop-heading.all c.loop-heading.heading v) h 0 ≡ f h) (sym made)
          (fill_by_more f c.loop-heading.all c.loop-heading.heading 0 (omega arith) c.loop-heading.invariant.1),
    )

pub returns : goal.returns
returns g c =
    let p = g.S.JumpSource.meaning c.args.source.now in
    let all : (h : ℕ) → h < 8 → get_or c.loop-heading.all h 0 ≡ label_of (jump_of p c.args.cell h) = λ h b. c.loop-heading.invariant.1 h (omega arith) in
    record {
      len = c.loop-heading.invariant.0;
      made = all;
      back = λ h b. ap said_by (all h b) ∙ label_says _ _ (omega (arith, numbered_short p (g.S.JumpSource.sized c.args.source.now) c.args.cell h));
    }
