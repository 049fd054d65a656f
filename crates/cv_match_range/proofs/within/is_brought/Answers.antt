use Rattle.std.proofs.Common.{sym}
use Rattle.std.specs.Ordering.{on}
use Rattle.std.specs.Cmp.{on_total}
use Rattle.cv_match_range.specs.Order.{version_cmp_of, version_total_of}
use Rattle.cv_match_range.proofs.Introductions.{brings_last}
use Rattle.cv_match_range.proofs.within.is_brought.Goals as goal

pub returns : goal.returns
returns g c = rw (c.lasts.ensures, c.last_start.ensures)
    (sym (brings_last (on g.V.Version.text (version_cmp_of g.V.Version.kind)) (on_total g.V.Version.text (version_total_of g.V.Version.kind)) c.args.events.now c.args.version.now))
