use Rattle.std.proofs.Common.{◌+◌, ◌*◌, length}
use Rattle.cv_serve_crew.proofs.team.+fn-run_team-join_mut+arg3+run_team.Given as goal

abbrev pub decreases-join_mut+arg3 : goal.decreases-join_mut+arg3
decreases-join_mut+arg3 g l = 2 * length l.parts.now + 1

abbrev pub decreases-run_team : goal.decreases-run_team
decreases-run_team g l = 2 * length l.parts.now
