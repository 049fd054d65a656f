-- Threads may share a hand: a `&` to a pass shows a part of what a pass owns, and no more.
use denote.RattleType.{RattleType}
use denote.Param.Send.{IsSend, IsSync, Frees, sendable, whole-keyless}
use denote.Param.SendFields.{declared_send, declared_sync}
use Rattle.std.proofs.Crossing.{crosses}
use Rattle.std.specs.declared.alloc.Allocator as Allocator
use Rattle.atomic_blocks.specs.contracts.rows.shared.Seat as pass
use Rattle.atomic_blocks.proofs.rows.shared.Seat.TheSendSync as sent
use Rattle.crossbeam_deque.specs.contracts.handles.Stealer as stealer
use Rattle.crossbeam_deque.specs.contracts.inner.End as ending
use Rattle.crossbeam_deque.proofs.handles.Stealer.TheSendSync as stealer_sent
use Rattle.crossbeam_deque.proofs.inner.Inner.TheSendSync as inner_sent
use Rattle.crossbeam_deque.specs.declared.protocol.Protocol as Protocol
use Rattle.cv_pool.specs.contracts.seat.Seat as seat
use Rattle.cv_pool.specs.contracts.queue_owners.QueueOwners as queue_owners
use Rattle.cv_pool.specs.contracts.hand.Hand as hand

-- a `&` to a pass shows a part of what a pass owns
pass_sync : (S V A : RattleType) (g : Allocator.Ghosts A.Denot) → IsSend S → IsSend A → Frees g g.dealloc_token → IsSync (pass.the_row S V A g)
pass_sync S V A g s a f = let sends : IsSend (pass.the_row S V A g) = sent.the_send S V A g s a f in record { shared = λ d b o ν q. whole-keyless _ _ sends.owned q d b o }

module _ (T V A : RattleType) (g : Allocator.Ghosts A.Denot) where
  end_sync : IsSend T → IsSend A → Frees g g.dealloc_token → IsSync (ending.the_row T V A g)
  end_sync t a f = search (pass_sync, crosses, sendable, declared_sync) depth 60 fits 20000

  module _ (P : RattleType) (p : Protocol.Ghosts P.Denot T.Denot V.Denot) where
    stealer_sync : IsSend T → IsSend A → IsSync A → Frees g g.dealloc_token → IsSync (stealer.the_row T A V P g p)
    stealer_sync t a y f = search (stealer_sent.the_sync, crosses, sendable, declared_sync) depth 60 fits 20000

-- a seat may be shared
pub seat_sync : IsSync seat.the_row
seat_sync = search (pass_sync, stealer_sync, crosses, sendable, declared_sync, declared_send) depth 60 fits 20000

-- so may the owners of the queues
pub owners_sync : IsSync queue_owners.the_row
owners_sync = search (end_sync, inner_sent.the_send, inner_sent.the_sync, crosses, sendable, declared_sync, declared_send) depth 60 fits 20000

-- and a hand
pub hand_sync : IsSync hand.the_row
hand_sync = search (seat_sync, owners_sync, crosses, sendable, declared_sync) depth 60 fits 20000
