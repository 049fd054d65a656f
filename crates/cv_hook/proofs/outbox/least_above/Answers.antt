use Rattle.std.specs.Prelude.{ℕ, List, take}
use Rattle.std.proofs.Common.{subst, sym}
use Rattle.cv_hook.specs.Attempts.{IsLeast, numbers}
use Rattle.cv_hook.proofs.LeastLemmas.{numbers_more}
use Rattle.cv_hook.proofs.outbox.least_above.Goals as goal

pub loop-head-preserved : goal.loop-head-preserved
loop-head-preserved c =
    subst (λ (standing : List ℕ). IsLeast c.args.last standing c.lesser-least.result) (sym (numbers_more c.args.heads.now c.loop-head.head-index _ c.loop-head-test.true))
    (c.lesser-least.ensures (numbers (take c.loop-head.head-index c.args.heads.now)) c.loop-head.invariant)
