use Rattle.std.proofs.Common.{◌≡◌, length}
use Rattle.cv_path.specs.Texts.{same_name}
use Rattle.cv_path.proofs.text.is_same_name.Given as goal

-- what remains of the names decides
abbrev pub invariant-loop-left : goal.invariant-loop-left
invariant-loop-left l = same_name l.left l.right ≡ same_name l.fn.one l.fn.other

abbrev pub decreases-loop-left : goal.decreases-loop-left
decreases-loop-left l = length l.left
