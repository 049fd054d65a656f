-- What lies under the lock of a hub, and receipts, may go to other threads, if they may share the desk. Each part has a lemma: a search
-- over a whole type gives up.
use denote.RattleType.{RattleType}
use denote.Param.Send.{IsSend, IsSync, sendable}
use denote.Param.SendFields.{declared_send}
use Rattle.std.proofs.Crossing.{crosses}
use Rattle.std.specs.declared.sync.ledger.Ledger as ledger
use Rattle.std.proofs.sync.ledger.Book.TheSendSync as count
use Rattle.cv_desk.specs.declared.desk.Desk as desk
use Rattle.cv_core_records.proofs.event.EventEntry.TheSendSync as entry
use Rattle.cv_core_records.proofs.reply.Reply.TheSendSync as reply
use Rattle.cv_core.proofs.Crossing.{core_send}
use Rattle.cv_core.specs.contracts.machine.Core as core
use Rattle.cv_hub_seats.proofs.Crossing.{front_send, head_send, note_send, post_send, post_sync}
use Rattle.cv_hub_seats.specs.contracts.note.Note as note
use Rattle.cv_hub_seats.specs.declared.identity.Identity as identity
use Rattle.left_right.proofs.writer.Writer.TheSendSync as writing
use Rattle.cv_hub.specs.contracts.events.EventList as events
use Rattle.cv_hub.specs.contracts.locked.Locked as locked
use Rattle.cv_hub.specs.contracts.locked.Receipt as receipt

module _ (D L : RattleType) (d : desk.Ghosts D.Denot) (i : identity.Ghosts L.Denot) (l : ledger.Ghosts L.Denot) where
  -- with the note as it is
  receipt_of : IsSend (note.the_row D L d i l) → IsSend (receipt.the_row D L d i l)
  receipt_of note_goes = search (reply.the_send, sendable, declared_send) depth 30 fits 5000

  pub receipt_send : IsSend D → IsSync D → IsSend L → IsSync L → IsSend (receipt.the_row D L d i l)
  receipt_send ds dy ls ly = receipt_of (note_send D L d i l ds dy ls ly)

  events_send : IsSend D → IsSync D → IsSend L → IsSync L → IsSend (events.the_row D L i l d)
  events_send ds dy ls ly = search (front_send, head_send, count.the_send, entry.the_send, sendable, crosses, declared_send) depth 30 fits 5000

  -- with the core and the list as they are: a search that knows more of a core gives up
  of_parts : IsSend (core.the_row D d) → IsSend (events.the_row D L i l d) → IsSend (locked.the_row D L d i l)
  of_parts core_goes list_goes = search (writing.the_send, post_send, post_sync, crosses, sendable, declared_send) depth 30 fits 5000

  pub locked_send : IsSend D → IsSync D → IsSend L → IsSync L → IsSend (locked.the_row D L d i l)
  locked_send ds dy ls ly = of_parts (core_send D d ds dy) (events_send ds dy ls ly)
