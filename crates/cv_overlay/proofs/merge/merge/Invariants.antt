use Rattle.std.proofs.Common.{◌≡◌, ◌+◌, ◌≤◌, ◌++◌, length, vec_len, vec_capacity}
use Rattle.cv_overlay.specs.code.Merge.{merged}
use Rattle.cv_overlay.proofs.merge.merge.Given as goal

-- the entries so far, with the remaining ones merged, are the whole merged
abbrev pub invariant-loop-order : goal.invariant-loop-order
invariant-loop-order l = record {
  items : l.room.items ++ merged l.low.items l.high.items ≡ merged l.fn.lower.items l.fn.upper.items;
  room : vec_len l.room + (length l.low.items + length l.high.items) ≤ vec_capacity l.room;
}

abbrev pub decreases-loop-order : goal.decreases-loop-order
decreases-loop-order l = length l.low.items + length l.high.items
