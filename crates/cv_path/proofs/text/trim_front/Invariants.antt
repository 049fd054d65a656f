use Rattle.std.proofs.Common.{◌≡◌, length}
use Rattle.cv_path.specs.Cuts.{is_blank, without_front}
use Rattle.cv_path.proofs.text.trim_front.Given as goal

-- what was dropped is dropped from the whole
abbrev pub invariant-loop-rest : goal.invariant-loop-rest
invariant-loop-rest l = without_front is_blank l.rest ≡ without_front is_blank l.fn.text

abbrev pub decreases-loop-rest : goal.decreases-loop-rest
decreases-loop-rest l = length l.rest
