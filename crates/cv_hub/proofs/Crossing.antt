-- Threads may share a hub, and it may go to another thread, if they may share the desk. Each part has a lemma: a search over a whole
-- type gives up.
use denote.RattleType.{RattleType}
use denote.Param.Send.{IsSend, IsSync, sendable}
use denote.Param.SendFields.{declared_send, declared_sync}
use Rattle.std.proofs.Crossing.{crosses}
use Rattle.std.specs.declared.sync.ledger.Ledger as ledger
use Rattle.cv_desk.specs.declared.desk.Desk as desk
use Rattle.cv_hub_seats.proofs.Crossing.{front_send, front_sync}
use Rattle.cv_hub_seats.specs.contracts.prefix.Prefix as front
use Rattle.cv_hub_seats.specs.declared.identity.Identity as identity
use Rattle.cv_hub.proofs.HoldCrossing.{locked_row, locked_send}
use Rattle.cv_hub.specs.contracts.hub.Hub as hub

module _ (D L : RattleType) (d : desk.Ghosts D.Denot) (i : identity.Ghosts L.Denot) (l : ledger.Ghosts L.Denot) where
  -- with the parts as they are: a search that knows more of them gives up
  of_parts : IsSend (locked_row D L d i l) → IsSend (front.the_row D L d i l) → IsSend (hub.the_row D L d i l)
  of_parts locked_goes front_goes = search (sendable, crosses, declared_send) depth 30 fits 5000

  -- what lies under a lock need not be shared: who holds the lock has it alone
  shared_of_parts : IsSend (locked_row D L d i l) → IsSync (front.the_row D L d i l) → IsSync (hub.the_row D L d i l)
  shared_of_parts locked_goes front_shared = search (sendable, crosses, declared_sync) depth 30 fits 5000

  pub hub_send : IsSend D → IsSync D → IsSend L → IsSync L → IsSend (hub.the_row D L d i l)
  hub_send ds dy ls ly = of_parts (locked_send D L d i l ds dy ls ly) (front_send D L d i l ds dy ls ly)

  pub hub_sync : IsSend D → IsSync D → IsSend L → IsSync L → IsSync (hub.the_row D L d i l)
  hub_sync ds dy ls ly = shared_of_parts (locked_send D L d i l ds dy ls ly) (front_sync D L d i l ds dy ls ly)
