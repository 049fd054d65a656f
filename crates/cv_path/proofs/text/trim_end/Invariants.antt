use Rattle.std.proofs.Common.{◌≡◌, length}
use Rattle.cv_path.specs.Cuts.{is_blank, without_end}
use Rattle.cv_path.proofs.text.trim_end.Given as goal

-- what was dropped is dropped from the whole
abbrev pub invariant-loop-last : goal.invariant-loop-last
invariant-loop-last l = without_end is_blank l.rest ≡ without_end is_blank l.fn.text

abbrev pub decreases-loop-last : goal.decreases-loop-last
decreases-loop-last l = length l.rest
