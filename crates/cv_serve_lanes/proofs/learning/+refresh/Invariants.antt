use Rattle.std.proofs.Common.{length}
use Rattle.cv_serve_lanes.proofs.learning.+refresh.Given as goal

abbrev pub decreases-refresh : goal.decreases-refresh
decreases-refresh g l = length l.seats.now
