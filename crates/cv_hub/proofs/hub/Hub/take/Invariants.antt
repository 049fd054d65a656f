use Rattle.std.proofs.Common.{◌≡◌}
use Rattle.cv_hub.proofs.hub.Hub.take.Given as goal

-- the seats stay as they are
abbrev pub invariant-loop : goal.invariant-loop
invariant-loop g l = ((goal.iterator-loop g).can_next l.iterator' × (goal.iterator-loop g).is_finite l.iterator') × (l.seats ≡ l.fn.seats)
