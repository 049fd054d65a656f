use Rattle.cv_pypi.proofs.Names.{normalized_plain, normalized_runs}
use Rattle.cv_pypi.proofs.name.normalized_law.Goals as goal

pub returns : goal.returns
returns c = record { runs = λ front run rest first s e b. normalized_runs front run rest first s e b; plain = normalized_plain }
