use Rattle.std.proofs.Common.{◌∙◌, sym}
use Rattle.cv_match_range.specs.Order.{version_cmp_of}
use Rattle.cv_match.proofs.Mapped.{place_ranges}
use Rattle.cv_match.proofs.matching.first_range.Goals as goal

pub returns : goal.returns
returns g c = c.range_place.ensures ∙ sym (place_ranges g.V.Version.text (version_cmp_of g.V.Version.kind) (g.V.Version.text c.args.version.now) c.args.ranges.now)
