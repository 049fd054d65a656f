use Rattle.std.proofs.Common.{◌+◌, ◌≤◌, length, ◌∙◌, ap, subst}
use Rattle.std.specs.Prelude.{Err}
use Rattle.cv_scan.specs.Layers.{distinct}
use Rattle.cv_command.specs.Outcome.{ReadsBack, packages_text}
use Rattle.cv_command.proofs.OutcomeLemmas.{read_at_most, says_packages, unlisted_says}
use Rattle.cv_command.proofs.sbom.packages_answer.Goals as goal

pub returns-in_ok-packages_line-in-Ok-clause-outcome : goal.returns-in_ok-packages_line-in-Ok-clause-outcome
returns-in_ok-packages_line-in-Ok-clause-outcome g c =
    says_packages g.D.Desk.tree c.args.request.now.first c.args.request.now.records c.as_slice-layers.result.now c.as_slice-seals.result.now _ _
    c.as_slice-layers.ensures c.as_slice-seals.ensures _ c.in-Ok.packages c.in-Ok.ensures.answer c.in-Ok.ensures.listed
    (c.in_ok-packages_line-in-Ok.ensures.text ∙ ap (packages_text c.args.request.now.first.hash) c.as_slice.ensures)
    (subst (ReadsBack c.args.request.now.first.hash) c.as_slice.ensures c.in_ok-packages_line-in-Ok.ensures.reads_back)

pub returns-in-Err-clause-outcome : goal.returns-in-Err-clause-outcome
returns-in-Err-clause-outcome g c =
    unlisted_says g.D.Desk.tree c.args.request.now.first c.args.request.now.records c.as_slice-layers.result.now c.as_slice-seals.result.now _ _
    c.as_slice-layers.ensures c.as_slice-seals.ensures c.in-Err.error c.error_answer.result c.in-Err.ensures.answer c.in-Err.ensures.listed c.in-Err.ensures.cause c.error_answer.ensures

pub returns-in-Err-clause-listed : goal.returns-in-Err-clause-listed
returns-in-Err-clause-listed g c =
    let listings = g.D.Desk.listings in
    subst (λ layers. listings c.list_packages.new.desk ≤ listings c.args.desk.now + length (distinct layers)) c.as_slice-layers.ensures
    (read_at_most c.as_slice-layers.result.now _ _ (Err c.in-Err.error) c.in-Err.ensures.listed)
