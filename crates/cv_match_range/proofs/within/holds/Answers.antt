use Rattle.std.proofs.Common.{◌∙◌, sym}
use Rattle.cv_match_range.specs.Order.{version_cmp_of}
use Rattle.cv_match_range.proofs.Mapped.{holds_text}
use Rattle.cv_match_range.proofs.within.holds.Goals as goal

pub returns : goal.returns
returns g c = c.have_within.ensures ∙ sym (holds_text g.V.Version.text (version_cmp_of g.V.Version.kind) c.args.version.now c.args.events.now)
