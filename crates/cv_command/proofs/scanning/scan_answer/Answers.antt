use Rattle.std.proofs.Common.{◌∙◌, ap}
use Rattle.cv_scan_output.specs.Scan.{good_text}
use Rattle.cv_command.proofs.OutcomeLemmas.{answer_says, says_good}
use Rattle.cv_command.proofs.scanning.scan_answer.Goals as goal

pub returns-in-Ok-clause-outcome : goal.returns-in-Ok-clause-outcome
returns-in-Ok-clause-outcome g c =
    says_good g.D.Desk.tree c.args.request.now.first c.args.request.now.records c.as_slice-records.result.now c.as_slice-layers.result.now c.as_slice-seals.result.now _ _ c.in_ok-feed.feed
    c.as_slice-layers.ensures c.as_slice-seals.ensures c.as_slice-records.ensures c.in_ok-feed.ensures _ c.in-Ok.found c.in-Ok.ensures.answer c.in-Ok.ensures.listed
    (c.in_ok-good_line-in-Ok.ensures ∙ ap (good_text c.args.request.now.first.hash) c.as_slice.ensures)

pub returns-clause-outcome : goal.returns-clause-outcome
returns-clause-outcome g c =
    answer_says g.D.Desk.tree c.args.request.now.first c.args.request.now.records c.as_slice-records.result.now c.as_slice-layers.result.now c.as_slice-seals.result.now _ _ c.in_ok-feed.feed
    c.as_slice-layers.ensures c.as_slice-seals.ensures c.as_slice-records.ensures c.in_ok-feed.ensures c.in-Err.error c.error_answer.result
    c.in-Err.ensures.answer c.in-Err.ensures.listed c.in-Err.ensures.cause c.error_answer.ensures
