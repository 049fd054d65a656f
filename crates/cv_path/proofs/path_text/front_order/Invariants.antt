use Rattle.std.proofs.Common.{◌≡◌, length}
use Rattle.cv_path.specs.code.PathText.{front_text, text_cmp}
use Rattle.cv_path.proofs.path_text.front_order.Given as goal

-- the remaining texts compare as the whole ones do
abbrev pub invariant-loop-left : goal.invariant-loop-left
invariant-loop-left l = text_cmp l.left (front_text l.kept l.right) ≡ text_cmp l.fn.one (front_text l.fn.slashes l.fn.other)

abbrev pub decreases-loop-left : goal.decreases-loop-left
decreases-loop-left l = length l.left
