-- The packages of an image as an answer.
use Rattle.std.specs.Prelude.{List, Result, Ok, Err}
use Rattle.cv_base.specs.declared.package.Package.{Package}
use Rattle.cv_overlay.specs.declared.fault.ImageFault.{ImageFault}
pub use Rattle.cv_scan.specs.Image.{image_packages}
pub use Rattle.cv_scan.specs.Scan.{with_findings as image_findings}
use Rattle.cv_coalesce.specs.declared.image.ImagePackages.{ImagePackages}
use Rattle.cv_coalesce.specs.declared.image.ImagePackages.TheVariants.{Good, Bad}

-- the packages of an image, or why it has none
abbrev pub answer_of : Result (List Package) ImageFault → ImagePackages
answer_of (Ok found) = Good found
answer_of (Err bad) = Bad bad
