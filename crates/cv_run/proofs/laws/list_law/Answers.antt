use Rattle.cv_run.proofs.ListRuns.{runs_find_the_same}
use Rattle.cv_run.proofs.laws.list_law.Goals as goal

pub returns : goal.returns
returns g c = runs_find_the_same g.D.Desk.tree g.S.Source.remaining g.D.Desk.listings g.D.Desk.faults
