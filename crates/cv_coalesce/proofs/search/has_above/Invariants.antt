use Rattle.std.proofs.Common.{◌≡◌, ℕ, ◌<◌, false}
use Rattle.cv_coalesce.specs.code.Search.{has_front}
use Rattle.cv_coalesce.proofs.search.has_above.Given as goal

-- no shorter front is in the list
abbrev pub invariant-loop-depth : goal.invariant-loop-depth
invariant-loop-depth l = (k : ℕ) → k < l.depth → has_front l.list l.path k ≡ false
