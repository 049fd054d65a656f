use Rattle.std.proofs.Common.{◌∙◌, ap}
use Rattle.std.specs.BTreeMap.{get}
use Rattle.std.specs.Cmp.Lexicographic.{slice_cmp}
use Rattle.std.specs.Ordering.{nat_cmp}
use Rattle.cv_base.specs.Digest.{digest_text}
use Rattle.cv_drill.specs.Images.{image}
use Rattle.cv_drill.proofs.Lists.{found_pushed}
use Rattle.cv_drill.proofs.report.lines_by_image.Goals as goal

pub loop-index-preserved : goal.loop-index-preserved
loop-index-preserved c =
    found_pushed (λ i. get (slice_cmp nat_cmp) c.args.reports.now (digest_text (image i))) c.loop-index.index _ _ _
    c.loop-index.invariant (c.get.ensures.value ∙ ap (get (slice_cmp nat_cmp) c.args.reports.now) (c.in_ok-image.ensures ∙ ap digest_text c.digest.ensures)) c.in_ok-push_found.ensures
