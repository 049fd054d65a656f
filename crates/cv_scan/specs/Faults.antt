-- Why a root or an image has no findings, and how the errors of lower crates are told (defined by this project).
use Rattle.std.specs.Prelude.{ℕ, List, Option, Some, None}
use Rattle.cv_desk.specs.declared.desk.DeskFault.{DeskFault}
use Rattle.cv_desk.specs.declared.desk.DeskFault.TheVariants as desk
use Rattle.cv_overlay.specs.declared.fault.ImageFault.TheVariants as image
use Rattle.cv_overlay.specs.declared.fault.OverlayError.{OverlayError}
use Rattle.cv_overlay.specs.declared.fault.OverlayError.TheVariants as overlay
use Rattle.cv_packages.specs.Faults.{image_fault}
use Rattle.cv_packages.specs.declared.error.PackagesError.{PackagesError}
use Rattle.cv_packages.specs.declared.error.PackagesError.TheVariants as packages
use Rattle.cv_packages.specs.declared.error.FileFault.{FileFault}
use Rattle.cv_packages.specs.declared.error.FileFault.TheVariants as fault
use Rattle.cv_scan.specs.declared.error.ScanError.{ScanError}
use Rattle.cv_scan.specs.declared.error.ScanError.TheVariants as error
use Rattle.cv_scan.specs.declared.layer_error.ImageError.{ImageError}
use Rattle.cv_scan.specs.declared.layer_error.ImageError.TheVariants as whole

-- the refused file that an error names, and none if memory ran out
abbrev pub scan_fault : ScanError → Option FileFault
scan_fault (error.BadFile path line what) = Some (fault.BadFile path line what)
scan_fault (error.TooLarge path) = Some (fault.TooLarge path)
scan_fault error.NoMemory = None

-- the error of a refused file
abbrev pub fault_error : FileFault → ScanError
fault_error (fault.BadFile path line what) = error.BadFile path line what
fault_error (fault.TooLarge path) = error.TooLarge path

-- the error of a root whose packages were not read
abbrev pub root_error : PackagesError → ScanError
root_error (packages.Refused refused) = fault_error refused
root_error packages.NoMemory = error.NoMemory

-- the error of an image whose packages were not read
abbrev pub packages_error : PackagesError → ImageError
packages_error (packages.Refused refused) = whole.Bad (image_fault refused)
packages_error packages.NoMemory = whole.NoMemory

-- the error of an image whose layer of this index was not laid
abbrev pub overlay_error : ℕ → OverlayError → ImageError
overlay_error index (overlay.BadTree bad) = whole.Bad (image.BadTree index bad)
overlay_error index overlay.NoMemory = whole.NoMemory

-- the error of an image of which this layer was not read
abbrev pub layer_error : List ℕ → DeskFault → ImageError
layer_error layer desk.Failed = whole.Desk layer
layer_error layer desk.NoMemory = whole.NoMemory
