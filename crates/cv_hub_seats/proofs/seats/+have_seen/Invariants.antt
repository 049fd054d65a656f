use Rattle.std.proofs.Common.{length}
use Rattle.cv_hub_seats.proofs.seats.+have_seen.Given as goal

abbrev pub decreases-have_seen : goal.decreases-have_seen
decreases-have_seen g l = length l.seats.now
