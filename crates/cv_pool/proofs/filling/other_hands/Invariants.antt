use Rattle.std.proofs.Common.{◌≡◌, ◌+◌, ℕ}
use Rattle.cv_pool.specs.Hands.{new_hands}
use Rattle.cv_pool.specs.code.Filling.{AreOwners, fill_of}
use Rattle.cv_pool.proofs.filling.other_hands.Given as goal

-- the hands from 1 up to this one are made, and each has a share
abbrev pub invariant-loop-index : goal.invariant-loop-index
invariant-loop-index l = (fill_of l.jobs l.owners ≡ fill_of l.jobs l.fn.owners)
    × ((kept : ℕ) × (kept + l.index ≡ 9) × AreOwners l.jobs kept 9 l.owners)
    × ((n : ℕ) × (n + 1 ≡ l.index) × (l.hands.items ≡ new_hands (fill_of l.jobs l.fn.owners) 1 n))
