-- Going over the package files of a root.
use Rattle.std.proofs.Common.{◌≡◌, List, ◌∷◌, ◌++◌, sym, ◌∙◌, ap}
use Rattle.std.specs.Prelude.{IfSome, Option, Some, None, Result, Ok, Err}
use Rattle.cv_base.specs.Results.{◌>>=◌, onto}
use Rattle.cv_base.specs.declared.package.Package.{Package}
use Rattle.cv_base.proofs.Results.{onto_joined}
use Rattle.cv_osrel.specs.declared.name.OsName.{OsName}
use Rattle.cv_packages.specs.Faults.{refused_file}
use Rattle.cv_packages.specs.Packages.{all_packages, packages_in}
use Rattle.cv_packages.specs.declared.error.FileFault.{FileFault}
use Rattle.cv_packages.specs.declared.error.PackagesError.{PackagesError}
use Rattle.cv_packages.specs.declared.found.FileFound.{FileFound}

-- packages of a file stand before those of the remaining ones
pub files_more : (front ps : List Package) (os : Option OsName) (file : FileFound) (files : List FileFound) → packages_in os file.path file.found ≡ Ok ps
    → onto (front ++ ps) (all_packages os files) ≡ onto front (all_packages os (file ∷ files))
files_more front ps os file files h =
    onto_joined front ps (all_packages os files)
    ∙ ap (λ (r : Result (List Package) FileFault). onto front (r >>= λ (xs : List Package). all_packages os files >>= λ (qs : List Package). Ok (xs ++ qs))) (sym h)

bad_by : (front : List Package) (os : Option OsName) (file : FileFound) (files : List FileFound) (whole : Result (List Package) FileFault) (refused : Option FileFault)
    → onto front (all_packages os (file ∷ files)) ≡ whole → IfSome refused (λ f. packages_in os file.path file.found ≡ Err f) → IfSome refused (λ f. whole ≡ Err f)
bad_by front os file files whole None h k = tt
bad_by front os file files whole (Some f) h k =
    sym h ∙ ap (λ (r : Result (List Package) FileFault). onto front (r >>= λ (xs : List Package). all_packages os files >>= λ (qs : List Package). Ok (xs ++ qs))) k

-- where a file is refused, the root is
pub files_bad : (front : List Package) (os : Option OsName) (file : FileFound) (files : List FileFound) (whole : Result (List Package) FileFault) (error : PackagesError)
    → onto front (all_packages os (file ∷ files)) ≡ whole → IfSome (refused_file error) (λ f. packages_in os file.path file.found ≡ Err f) → IfSome (refused_file error) (λ f. whole ≡ Err f)
files_bad front os file files whole error h k = bad_by front os file files whole (refused_file error) h k
