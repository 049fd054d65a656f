-- The errors of lower crates, as a scan tells them.
use Rattle.std.specs.Prelude.{◌≡◌, ℕ, List, MatchBool, ⊤, Option, Some, None, Result, Ok, Err, IfSome, refl}
use Rattle.std.proofs.Common.{ap}
use Rattle.cv_base.specs.declared.advisory.Advisory.{Advisory}
use Rattle.cv_base.specs.declared.package.Package.{Package}
use Rattle.cv_desk.specs.Fault.{is_failed}
use Rattle.cv_desk.specs.declared.desk.DeskFault.{DeskFault}
use Rattle.cv_desk.specs.declared.desk.DeskFault.TheVariants as desk
use Rattle.cv_packages.specs.Faults.{refused_file}
use Rattle.cv_packages.specs.declared.error.FileFault.{FileFault}
use Rattle.cv_packages.specs.declared.error.FileFault.TheVariants as fault
use Rattle.cv_packages.specs.declared.error.PackagesError.{PackagesError}
use Rattle.cv_packages.specs.declared.error.PackagesError.TheVariants as error
use Rattle.cv_scan.specs.Failed.{is_desk_fault}
use Rattle.cv_scan.specs.Faults.{layer_error, packages_error, root_error, scan_fault}
use Rattle.cv_scan.specs.Image.{as_image}
use Rattle.cv_scan.specs.Scan.{with_findings}
use Rattle.cv_scan.specs.code.Failed.{IsOfLayer}
use Rattle.cv_scan.specs.code.Layers.{is_image_memory, refusing}

-- packages that were not read, as the error of an image
pub packages_given : (feeds : List (List ℕ × List Advisory)) (found : Result (List Package) FileFault) (e : PackagesError) → IfSome (refused_file e) (λ f. found ≡ Err f)
    → MatchBool (is_image_memory (packages_error e)) ⊤ (refusing (with_findings feeds (as_image found)) ≡ Err (packages_error e))
packages_given feeds found (error.Refused f) h = ap (λ (r : Result (List Package) FileFault). refusing (with_findings feeds (as_image r))) h
packages_given feeds found error.NoMemory h = tt

-- the same of a root
pub root_given : (feeds : List (List ℕ × List Advisory)) (found : Result (List Package) FileFault) (e : PackagesError) → IfSome (refused_file e) (λ f. found ≡ Err f)
    → IfSome (scan_fault (root_error e)) (λ f. with_findings feeds found ≡ Err f)
root_given feeds found (error.Refused (fault.BadFile path line what)) h = ap (with_findings feeds) h
root_given feeds found (error.Refused (fault.TooLarge path)) h = ap (with_findings feeds) h
root_given feeds found error.NoMemory h = tt

-- a layer that was not read
pub of_layer : (layer : List ℕ) (f : DeskFault) → IsOfLayer layer (layer_error layer f)
of_layer layer desk.Failed = refl
of_layer layer desk.NoMemory = tt

pub blamed : (A B : Type 0) (layer : List ℕ) (f : DeskFault) → is_desk_fault {A = A} (Err (layer_error layer f)) ≡ is_failed {X = B} (Err f)
blamed A B layer desk.Failed = refl
blamed A B layer desk.NoMemory = refl
