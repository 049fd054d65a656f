use Rattle.std.proofs.Common.{◌≡◌, length}
use Rattle.cv_osrel.specs.Value.{double_quoted}
use Rattle.cv_osrel.proofs.Quotes.{onto}
use Rattle.cv_osrel.proofs.value.double_quoted.Given as goal

-- what was read, in front of what remains, is the whole
abbrev pub invariant-loop-first : goal.invariant-loop-first
invariant-loop-first l = onto l.value.items (double_quoted l.remaining) ≡ double_quoted l.fn.text

abbrev pub decreases-loop-first : goal.decreases-loop-first
decreases-loop-first l = length l.remaining
