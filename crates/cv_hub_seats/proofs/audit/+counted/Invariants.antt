use Rattle.std.proofs.Common.{length}
use Rattle.cv_hub_seats.proofs.audit.+counted.Given as goal

abbrev pub decreases-counted : goal.decreases-counted
decreases-counted g l = length l.seats.now
