use Rattle.std.proofs.Common.{arith}
use Rattle.cv_pool.proofs.AccountLemmas.{forks}
use Rattle.cv_pool.proofs.filling.seat.Goals as goal

pub another-pass-requires : goal.another-pass-requires
another-pass-requires c =
    let some = c.requires.1 in
    let shares = c.requires.2.shares_kept in
    let none = c.requires.2.none_ended in
    forks _ _ (omega arith) (omega arith)
