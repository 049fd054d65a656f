use Rattle.std.proofs.Common.{◌≡◌}
use Rattle.std.specs.Option.{option_copied}
use Rattle.cv_pep440.specs.Order.{local_cmp}
use Rattle.cv_pep440.specs.Parts.{runs}
use Rattle.cv_pep440.specs.code.Walk.{remaining_len, runs_after}
use Rattle.cv_pep440.proofs.order.compare_locals.Given as goal

-- what remains of both compares as the whole
abbrev pub invariant-loop-left : goal.invariant-loop-left
invariant-loop-left l = local_cmp (runs_after (option_copied l.left)) (runs_after (option_copied l.right)) ≡ local_cmp (runs l.fn.a) (runs l.fn.b)

abbrev pub decreases-loop-left : goal.decreases-loop-left
decreases-loop-left l = remaining_len (option_copied l.left)
