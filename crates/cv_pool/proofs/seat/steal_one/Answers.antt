use Rattle.std.proofs.Common.{◌<◌, subst, sym}
use Rattle.cv_pool.specs.declared.account.Account.{Account}
use Rattle.cv_pool.proofs.AccountLemmas.{takes, finds_here}
use Rattle.cv_pool.proofs.seat.steal_one.Goals as goal

pub steal_as-requires-clause-takes : goal.steal_as-requires-clause-takes
steal_as-requires-clause-takes g c = takes _ _ (subst (λ (v : Account). v.ended < v.shares) (sym c.loop.invariant.1) c.requires.share)

pub steal_as-requires-clause-empty : goal.steal_as-requires-clause-empty
steal_as-requires-clause-empty g c = finds_here _ _ _ c.requires.fifo
