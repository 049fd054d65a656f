use Rattle.cv_tree.proofs.KeyLemmas.{around_search}
use Rattle.cv_tree.proofs.rebuild.around.Goals as goal

pub returns-in-Ok : goal.returns-in-Ok
returns-in-Ok g c =
    λ h. rw c.in-Ok.is at (around_search g.met.K.Ord.total c.args.keys.now c.args.key.now c.binary_search.result h c.binary_search.ensures.bound c.binary_search.ensures.position)

pub returns-in-Err : goal.returns-in-Err
returns-in-Err g c =
    λ h. rw c.in-Err.is at (around_search g.met.K.Ord.total c.args.keys.now c.args.key.now c.binary_search.result h c.binary_search.ensures.bound c.binary_search.ensures.position)
