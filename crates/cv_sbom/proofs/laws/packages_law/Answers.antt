use Rattle.cv_sbom.proofs.BelowTop.{below_top}
use Rattle.cv_sbom.proofs.laws.packages_law.Goals as goal

pub returns : goal.returns
returns c = record { below_top = below_top }
