use Rattle.std.proofs.Common.{◌∙◌, ap}
use Rattle.std.proofs.lemmas.Result.{IfOk-weaker}
use Rattle.cv_base.specs.Digest.{digest_text}
use Rattle.cv_drill.specs.Images.{image}
use Rattle.cv_drill.specs.Lines.{lines_text, numbers}
use Rattle.cv_drill.proofs.Lists.{found_same}
use Rattle.cv_drill.proofs.report.last_reports.Goals as goal

pub returns : goal.returns
returns c =
    IfOk-weaker c.lines_by_image.result _ _
    (λ text h. h ∙ ap lines_text (found_same _ _ (λ i. c.in_ok-reports.ensures (digest_text (image i))) (numbers c.args.images)))
    c.lines_by_image.ensures
