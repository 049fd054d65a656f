use Rattle.std.proofs.Common.{◌∙◌, sym}
use Rattle.cv_match_range.specs.Order.{version_cmp_of}
use Rattle.cv_match.proofs.Mapped.{any_ranges}
use Rattle.cv_match.proofs.matching.some_range_holds.Goals as goal

pub returns : goal.returns
returns g c = c.some_range.ensures ∙ sym (any_ranges g.V.Version.text (version_cmp_of g.V.Version.kind) (g.V.Version.text c.args.version.now) c.args.ranges.now)
