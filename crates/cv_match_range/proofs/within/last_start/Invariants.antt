use Rattle.std.proofs.Common.{◌≡◌, None, length}
use Rattle.std.specs.Option.{option_copied}
use Rattle.std.specs.Ordering.{on}
use Rattle.cv_match_range.specs.Order.{version_cmp_of}
use Rattle.cv_match_range.specs.code.Walk.{last_start}
use Rattle.cv_match_range.proofs.within.last_start.Given as goal

-- the best so far, with those that remain, gives the latest of all
abbrev pub invariant-loop-remaining : goal.invariant-loop-remaining
invariant-loop-remaining g l = let R = on g.V.Version.text (version_cmp_of g.V.Version.kind) in
    last_start R l.version (option_copied l.best) l.remaining ≡ last_start R l.version None l.fn.events

abbrev pub decreases-loop-remaining : goal.decreases-loop-remaining
decreases-loop-remaining g l = length l.remaining
