use Rattle.std.proofs.Common.{◌+◌, ◌*◌, length}
use Rattle.cv_serve_crew.proofs.crew.+crew.Given as goal

abbrev pub decreases-crew_from : goal.decreases-crew_from
decreases-crew_from g l = 4 * length l.desks.now + 2

abbrev pub decreases-crew_from-join_mut+arg3 : goal.decreases-crew_from-join_mut+arg3
decreases-crew_from-join_mut+arg3 g l = 4 * length l.desks.now + 1

abbrev pub decreases-run_crew : goal.decreases-run_crew
decreases-run_crew g l = 4 * length l.desks.now
