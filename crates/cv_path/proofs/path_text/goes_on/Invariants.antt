use Rattle.std.proofs.Common.{◌≡◌, length}
use Rattle.cv_path.specs.code.PathText.{goes_on}
use Rattle.cv_path.proofs.path_text.goes_on.Given as goal

-- what remains goes on as the whole does
abbrev pub invariant-loop-left : goal.invariant-loop-left
invariant-loop-left l = goes_on l.left l.right ≡ goes_on l.fn.upper l.fn.lower

abbrev pub decreases-loop-left : goal.decreases-loop-left
decreases-loop-left l = length l.left
