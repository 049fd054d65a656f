-- The entries, and those of the others taken so far.
use Rattle.std.specs.Prelude.{◌≡◌, ◌++◌}
use Rattle.cv_serve_dealing.proofs.gathering.joined.Given as goal

abbrev pub invariant-loop-entry : goal.invariant-loop-entry
invariant-loop-entry l = l.all.items ≡ l.fn.entries.items ++ l.yielded
