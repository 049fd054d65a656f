use Rattle.cv_sbom.proofs.ListLaws.{read_back}
use Rattle.cv_sbom.proofs.laws.list_laws.Goals as goal

pub returns : goal.returns
returns c = record { read_back = read_back }
