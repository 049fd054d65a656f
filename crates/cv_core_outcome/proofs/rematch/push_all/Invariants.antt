use Rattle.std.proofs.Common.{◌≡◌, ◌++◌}
use Rattle.cv_core_outcome.proofs.rematch.push_all.Given as goal

-- the rows so far are added
abbrev pub invariant-loop-row : goal.invariant-loop-row
invariant-loop-row l = l.added.items ≡ l.fn.added.items ++ l.yielded
