use Rattle.std.proofs.Common.{◌≡◌, ◌+◌, ◌≤◌, ◌++◌, length, vec_len, vec_capacity}
use Rattle.cv_overlay.proofs.merge.put_all.Given as goal

-- the entries so far, with the remaining ones, are the whole
abbrev pub invariant-loop-entry : goal.invariant-loop-entry
invariant-loop-entry l = record {
  items : l.room.items ++ l.rest.items ≡ l.fn.room.items ++ l.fn.rest.items;
  len : vec_len l.room + length l.rest.items ≡ vec_len l.fn.room + length l.fn.rest.items;
  room : vec_len l.room + length l.rest.items ≤ vec_capacity l.room;
  capacity : vec_capacity l.fn.room ≤ vec_capacity l.room;
}

abbrev pub decreases-loop-entry : goal.decreases-loop-entry
decreases-loop-entry l = length l.rest.items
