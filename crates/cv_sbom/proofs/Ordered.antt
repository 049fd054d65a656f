-- The derived order of packages is that of their definition.
use Rattle.std.specs.Prelude.{◌≡◌, List}
use Rattle.cv_base.specs.InOrder.{in_order}
use Rattle.cv_base.specs.contracts.package.PackageOrd.TheImpl as packages
use Rattle.cv_base.specs.declared.«package».Package.{Package}
use Rattle.cv_match.specs.Findings.{package_cmp}
use Rattle.cv_match.proofs.PackageOrder.{packages_compare}

-- packages in the one order are in the other one
pub ordered : (ps : List Package) → in_order packages.ghosts.cmp ps ≡ in_order package_cmp ps
ordered ps = λ i. in_order (λ p q. packages_compare p q i) ps
