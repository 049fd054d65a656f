use Rattle.cv_findings.proofs.PartLemmas.{no_part, own_part, same_package}
use Rattle.cv_findings.proofs.laws.part_laws.Goals as goal

pub returns : goal.returns
returns c = record { own = own_part; none = no_part; packages = same_package }
