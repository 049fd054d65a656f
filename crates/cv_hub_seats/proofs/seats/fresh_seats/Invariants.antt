use Rattle.std.proofs.Common.{◌≡◌, ◌+◌, length}
use Rattle.cv_hub_seats.specs.Seats.{AreFresh}
use Rattle.cv_hub_seats.proofs.seats.fresh_seats.Given as goal

-- this number of seats is made, each with one part
abbrev pub invariant-loop-index : goal.invariant-loop-index
invariant-loop-index g l = (l.share.parts + l.index ≡ l.fn.seats) × (l.share.amount ≡ 0) × (length l.made.items ≡ l.index) × AreFresh 0 l.made.items
