use Rattle.std.proofs.Common.{sym, ap, ◌∙◌}
use Rattle.cv_base.specs.Path.{components}
use Rattle.cv_overlay.specs.Mark.{mark_of}
use Rattle.cv_overlay.specs.code.Text.{mark_by}
use Rattle.cv_overlay.proofs.TextLemmas.{mark_of_name, mark_of_last}
use Rattle.cv_overlay.proofs.mark.mark_of.Goals as goal

pub returns-in-None : goal.returns-in-None
returns-in-None c =
    c.mark_by.ensures
    ∙ sym (mark_of_name c.as_bytes-text.result.now c.args.is_dir c.in-None.ensures.none)
    ∙ ap (λ p. mark_of p c.args.is_dir) (ap components c.as_bytes-text.ensures.value ∙ c.text.ensures.parts)

pub returns-in-Some : goal.returns-in-Some
returns-in-Some c =
    c.mark_by-in-Some.ensures
    ∙ ap (λ b. mark_by b c.in-Some.name.now c.args.is_dir) c.has_reserved.ensures
    ∙ sym (mark_of_last c.in-Some.directory.now c.in-Some.name.now c.args.is_dir c.in-Some.ensures.last)
    ∙ ap (λ p. mark_of p c.args.is_dir) (ap components (sym c.in-Some.ensures.parts ∙ c.as_bytes-text.ensures.value) ∙ c.text.ensures.parts)
