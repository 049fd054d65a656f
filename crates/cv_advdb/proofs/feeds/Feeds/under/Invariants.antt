use Rattle.std.proofs.Common.{◌≡◌}
use Rattle.std.specs.List.{slice_get}
use Rattle.cv_advdb.specs.Feeds.{listed_under}
use Rattle.cv_advdb.proofs.feeds.Feeds.under.Given as goal

-- the record of the index that remains, in the feeds that remain, is that of the index in all feeds
abbrev pub invariant-loop-name : goal.invariant-loop-name
invariant-loop-name l = slice_get (listed_under l.key l.name-iterator) l.skipped ≡ slice_get (listed_under l.key l.fn.self.feeds) l.fn.index
