use Rattle.std.proofs.Common.{◌≡◌, length}
use Rattle.cv_pep440.specs.Parts.{after_release}
use Rattle.cv_pep440.proofs.parts.skip_release.Given as goal

abbrev pub invariant-loop-remaining : goal.invariant-loop-remaining
invariant-loop-remaining l = after_release l.remaining ≡ after_release l.fn.text

abbrev pub decreases-loop-remaining : goal.decreases-loop-remaining
decreases-loop-remaining l = length l.remaining
