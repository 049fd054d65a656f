use Rattle.std.proofs.Common.{refl}
use Rattle.cv_pool.proofs.SeatLemmas.{seat_took}
use Rattle.cv_pool.proofs.seat.Seat.take.Goals as goal

pub returns : goal.returns
returns g c = seat_took _ _ _ c.requires c.if-not-self.false refl c.steal_one-job.ensures.table c.steal_one-job.ensures.took c.steal_one-job.ensures.within c.is_some-self.ensures
