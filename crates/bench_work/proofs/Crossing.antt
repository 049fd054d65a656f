-- What threads work at may go to them, as seats may. A search over a whole seat gives up.
use denote.RattleType.{RattleType}
use denote.Param.Send.{IsSend, IsSync, sendable}
use denote.Param.SendFields.{declared_send}
use Rattle.std.proofs.Crossing.{crosses}
use Rattle.std.specs.declared.sync.ledger.Ledger as ledger
use Rattle.cv_base.proofs.digest.Digest.TheSendSync as digest
use Rattle.cv_hub_seats.proofs.Crossing.{seat_send}
use Rattle.cv_hub_seats.specs.contracts.seat.Seat as seat
use Rattle.cv_hub_seats.specs.declared.identity.Identity as identity
use Rattle.test_data.proofs.desk.SampleDesk.TheSendSync as desk_crossing
use Rattle.test_data.specs.contracts.desk.SampleDesk as desk
use Rattle.test_data.specs.contracts.desk.SampleDeskDesk.TheImpl as desk_impl
use Rattle.bench_work.proofs.hub.spread.Spread.TheSendSync as spread
use Rattle.bench_work.specs.contracts.hub.lanes.Lane as lane

module _ (L : RattleType) (i : identity.Ghosts L.Denot) (l : ledger.Ghosts L.Denot) where
  -- with the seat as it is
  lane_of : IsSend (seat.the_row desk.the_row L desk_impl.ghosts i l) → IsSend (lane.the_row L i l)
  lane_of seat_goes = search (digest.the_send, spread.the_send, sendable, crosses, declared_send) depth 30 fits 5000

  pub lane_send : IsSend L → IsSync L → IsSend (lane.the_row L i l)
  lane_send ls ly = lane_of (seat_send desk.the_row L desk_impl.ghosts i l desk_crossing.the_send desk_crossing.the_sync ls ly)
