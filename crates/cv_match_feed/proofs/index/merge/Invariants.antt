use Rattle.std.proofs.Common.{◌≡◌, ◌++◌, ◌+◌, length}
use Rattle.cv_match_feed.specs.code.Index.{merged}
use Rattle.cv_match_feed.proofs.index.merge.Given as goal

-- the indices so far, with the remaining ones merged, are the whole
abbrev pub invariant-loop-first : goal.invariant-loop-first
invariant-loop-first l = l.out.items ++ merged l.first l.second ≡ merged l.fn.one l.fn.two

abbrev pub decreases-loop-first : goal.decreases-loop-first
decreases-loop-first l = length l.first + length l.second
