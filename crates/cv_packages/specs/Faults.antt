-- Refused package files.
use Rattle.std.specs.Prelude.{Option, Some, None}
use Rattle.cv_overlay.specs.declared.fault.ImageFault.{ImageFault}
use Rattle.cv_overlay.specs.declared.fault.ImageFault.TheVariants as image
use Rattle.cv_packages.specs.declared.error.FileFault.{FileFault}
use Rattle.cv_packages.specs.declared.error.FileFault.TheVariants as fault
use Rattle.cv_packages.specs.declared.error.PackagesError.{PackagesError}
use Rattle.cv_packages.specs.declared.error.PackagesError.TheVariants as error

-- the refused file that an error names, and none where memory ran out
abbrev pub refused_file : PackagesError → Option FileFault
refused_file (error.Refused fault) = Some fault
refused_file error.NoMemory = None

-- a refused file makes its image bad
abbrev pub image_fault : FileFault → ImageFault
image_fault (fault.BadFile path line what) = image.BadFile path line what
image_fault (fault.TooLarge path) = image.TooLarge path
