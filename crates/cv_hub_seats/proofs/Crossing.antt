-- Threads may share what is published. Seats, notes and views may go to other threads, if these may share the desk. Each part has a
-- lemma: a search over a whole type gives up.
use denote.RattleType.{RattleType}
use denote.Param.Send.{IsSend, IsSync, sendable}
use denote.Param.SendFields.{declared_send, declared_sync}
use Rattle.std.proofs.Crossing.{crosses}
use Rattle.std.specs.declared.sync.ledger.Ledger as ledger
use Rattle.logbook.proofs.tokens.Seen.TheSendSync as seen
use Rattle.logbook.proofs.word.Word.TheSendSync as word
use Rattle.left_right.proofs.reader.Reader.TheSendSync as reader
use Rattle.left_right.proofs.reader.Reading.TheSendSync as reading
use Rattle.cv_core.proofs.Crossing.{board_send, board_sync}
use Rattle.std.proofs.sync.ledger.Share.TheSendSync as share
use Rattle.cv_desk.specs.declared.desk.Desk as desk
use Rattle.cv_hub_seats.specs.declared.identity.Identity as identity
use Rattle.cv_hub_seats.specs.contracts.prefix.Prefix as front
use Rattle.cv_hub_seats.specs.contracts.prefix.ListLength as head
use Rattle.cv_hub_seats.specs.contracts.door.Door as door
use Rattle.cv_hub_seats.specs.contracts.door.Entered as entered
use Rattle.cv_hub_seats.specs.contracts.note.Note as note
use Rattle.cv_hub_seats.specs.contracts.post.Post as post
use Rattle.cv_hub_seats.specs.contracts.seat.Seat as seat
use Rattle.cv_hub_seats.specs.contracts.view.View as view

pub post_send : IsSend post.the_row
post_send = search (board_send, seen.the_send, sendable, crosses, declared_send) depth 30 fits 5000

pub post_sync : IsSync post.the_row
post_sync = search (board_sync, seen.the_sync, sendable, crosses, declared_sync) depth 30 fits 5000

module _ (D L : RattleType) (d : desk.Ghosts D.Denot) (i : identity.Ghosts L.Denot) (l : ledger.Ghosts L.Denot) where
  pub front_send : IsSend D → IsSync D → IsSend L → IsSync L → IsSend (front.the_row D L d i l)
  front_send ds dy ls ly = search (seen.the_send, sendable, crosses, declared_send) depth 30 fits 5000

  pub front_sync : IsSend D → IsSync D → IsSend L → IsSync L → IsSync (front.the_row D L d i l)
  front_sync ds dy ls ly = search (seen.the_sync, sendable, crosses, declared_sync) depth 30 fits 5000

  pub head_send : IsSend L → IsSync L → IsSend (head.the_row L i l)
  head_send ls ly = search (word.the_send, sendable, crosses, declared_send) depth 30 fits 5000

  pub door_send : IsSend D → IsSync D → IsSend L → IsSync L → IsSend (door.the_row D L d i l)
  door_send ds dy ls ly = search (reader.the_send, post_sync, sendable, crosses, declared_send) depth 30 fits 5000

  pub entered_send : IsSend D → IsSync D → IsSend L → IsSync L → IsSend (entered.the_row D L d i l)
  entered_send ds dy ls ly = search (reading.the_send, post_sync, sendable, crosses, declared_send) depth 30 fits 5000

  pub note_send : IsSend D → IsSync D → IsSend L → IsSync L → IsSend (note.the_row D L d i l)
  note_send ds dy ls ly = search (reader.the_send, post_sync, front_send, sendable, crosses, declared_send) depth 30 fits 5000

  pub seat_send : IsSend D → IsSync D → IsSend L → IsSync L → IsSend (seat.the_row D L d i l)
  seat_send ds dy ls ly = search (door_send, front_send, share.the_send, sendable, crosses, declared_send) depth 30 fits 5000

  pub view_send : IsSend D → IsSync D → IsSend L → IsSync L → IsSend (view.the_row D L d i l)
  view_send ds dy ls ly = search (entered_send, front_send, share.the_send, sendable, crosses, declared_send) depth 30 fits 5000
