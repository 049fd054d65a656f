use Rattle.std.specs.List.Sorted.{IsStrictlySortedBy}
use Rattle.cv_advdb.proofs.feeds.Feeds.records_of.Goals as goal

pub returns-in-None-clause-sorted : goal.returns-in-None-clause-sorted
unfolding IsStrictlySortedBy
returns-in-None-clause-sorted c = tt
