-- The packages of an image as the code has them.
use Rattle.std.specs.Prelude.{List, Result, Ok, Err}
use Rattle.cv_base.specs.declared.package.Package.{Package}
use Rattle.cv_overlay.specs.declared.fault.ImageFault.{ImageFault}
use Rattle.cv_coalesce.specs.declared.image.ImagePackages.{ImagePackages}
use Rattle.cv_coalesce.specs.declared.image.ImagePackages.TheVariants.{Good, Bad}

-- the packages, or why there are none
abbrev pub packages_in : ImagePackages → Result (List Package) ImageFault
packages_in (Good packages) = Ok packages
packages_in (Bad bad) = Err bad
