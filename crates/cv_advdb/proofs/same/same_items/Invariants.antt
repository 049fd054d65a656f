use Rattle.std.proofs.Common.{◌≡◌, ◌↔◌, length}
use Rattle.cv_advdb.proofs.same.same_items.Given as goal

-- the lists are equal exactly if what remains of them is
abbrev pub invariant-loop-lefts : goal.invariant-loop-lefts
invariant-loop-lefts g l = (l.lefts ≡ l.rights) ↔ (l.fn.left ≡ l.fn.right)

abbrev pub decreases-loop-lefts : goal.decreases-loop-lefts
decreases-loop-lefts g l = length l.lefts
