use Rattle.std.proofs.Common.{◌∙◌, sym}
use Rattle.cv_match_range.specs.Order.{version_cmp_of}
use Rattle.cv_match.proofs.Mapped.{place_entries}
use Rattle.cv_match.proofs.matching.first_entry.Goals as goal

pub returns : goal.returns
returns g c = c.entry_place.ensures ∙ sym (place_entries g.V.Version.text (version_cmp_of g.V.Version.kind) c.args.key.now (g.V.Version.text c.args.version.now) c.args.entries.now)
