use Rattle.std.proofs.Common.{length}
use Rattle.cv_pool.proofs.taken.+gather_hands.Given as goal

abbrev pub decreases-gather_hands : goal.decreases-gather_hands
decreases-gather_hands l = length l.hands.items
