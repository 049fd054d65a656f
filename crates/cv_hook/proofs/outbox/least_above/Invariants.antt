use Rattle.std.specs.Prelude.{take}
use Rattle.cv_hook.specs.Attempts.{IsLeast, numbers}
use Rattle.cv_hook.proofs.outbox.least_above.Given as goal

abbrev pub invariant-loop-head : goal.invariant-loop-head
invariant-loop-head l = IsLeast l.last (numbers (take l.head-index l.heads)) l.least
