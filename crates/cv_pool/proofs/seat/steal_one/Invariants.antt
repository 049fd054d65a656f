use Rattle.std.proofs.Common.{◌≡◌}
use Rattle.crossbeam_deque.specs.Handles.{view, IsPassOf, stealer_deque}
use Rattle.cv_pool.proofs.seat.steal_one.Given as goal

-- an attempt that fails changes nothing that is known
abbrev pub invariant-loop : goal.invariant-loop
invariant-loop g l = IsPassOf (stealer_deque l.thief) l.pass × (view l.pass ≡ view l.fn.pass)
