use Rattle.std.proofs.Common.{◌≡◌, ◌≤◌, false, drop, length}
use Rattle.std.specs.List.{list_any}
use Rattle.cv_base.specs.Path.{is_slash}
use Rattle.cv_overlay.proofs.cut.cut.Given as goal

-- what was passed has no slash
abbrev pub invariant-loop-end : goal.invariant-loop-end
invariant-loop-end l = record { within : l.end ≤ length l.text; passed : list_any is_slash (drop l.end l.text) ≡ false }

abbrev pub decreases-loop-end : goal.decreases-loop-end
decreases-loop-end l = l.end
