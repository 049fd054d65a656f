use Rattle.std.proofs.Common.{◌∙◌, sym}
use Rattle.std.specs.Ordering.{on}
use Rattle.std.specs.Cmp.{on_total}
use Rattle.cv_match_range.specs.Order.{version_cmp_of, version_total_of}
use Rattle.cv_match_range.proofs.Fixes.{least_is}
use Rattle.cv_match_range.proofs.Mapped.{least_text}
use Rattle.cv_match_range.proofs.within.least_fix.Goals as goal

pub returns : goal.returns
returns g c =
    c.least_place.ensures
    ∙ (least_is (on g.V.Version.text (version_cmp_of g.V.Version.kind)) (on_total g.V.Version.text (version_total_of g.V.Version.kind)) c.args.version.now c.args.events.now
    ∙ sym (least_text g.V.Version.text (version_cmp_of g.V.Version.kind) c.args.version.now c.args.events.now))
