-- The packages of a root, or the first package file, in the order of paths, that is refused: one that is above the limit or
-- has a bad line. Defined by this project, but for os-release(5): `/etc/os-release` takes precedence over
-- `/usr/lib/os-release`.
--
-- `assembled files` takes the package files of a root in the order of their paths. `packages entries` takes the entries of the
-- root in the order of paths.
use Rattle.std.specs.Prelude.{Bool, true, false, ◌&&◌, not, filter, List, [], ◌∷◌, ◌++◌, map, Option, Some, None, Result, Ok, Err}
use Rattle.std.specs.List.{list_any}
use Rattle.std.specs.Option.{option_or, option_to_list}
use Rattle.cv_base.specs.Path.{Path}
use Rattle.cv_base.specs.Place.{place_of}
use Rattle.cv_base.specs.Results.{◌>>=◌}
use Rattle.cv_base.specs.declared.package.Package.{Package}
use Rattle.cv_base.specs.declared.package.PackageKind.TheVariants as kind
use Rattle.cv_path.specs.declared.places.Place.{Place}
use Rattle.cv_path.specs.declared.places.Place.TheVariants as place
use Rattle.cv_base.specs.declared.tree.TreeEntry.{TreeEntry}
use Rattle.cv_dpkg.specs.declared.package.DebPackage.{DebPackage}
use Rattle.cv_apkdb.specs.declared.package.ApkPackage.{ApkPackage}
use Rattle.cv_npm.specs.declared.package.NpmPackage.{NpmPackage}
use Rattle.cv_pypi.specs.declared.package.PypiPackage.{PypiPackage}
use Rattle.cv_osrel.specs.Ecosystem.{eco}
use Rattle.cv_osrel.specs.declared.name.OsName.{OsName}
use Rattle.cv_packages.specs.Files.{files_found}
use Rattle.cv_packages.specs.declared.error.FileFault.{FileFault}
use Rattle.cv_packages.specs.declared.error.FileFault.TheVariants as fault
use Rattle.cv_packages.specs.Texts.{apk_texts, deb_texts, npm_texts, package_with, pypi_texts}
use Rattle.cv_packages.specs.declared.found.FileFound.{FileFound}
use Rattle.cv_packages.specs.declared.found.Found.{Found}
use Rattle.cv_packages.specs.declared.found.Found.TheVariants.{Status, Installed, Os, Npm, Pypi, Bad, TooLarge}

-- the place is etc/os-release
abbrev pub is_etc_place : Option Place → Bool
is_etc_place (Some place.Os) = true
is_etc_place _ = false

-- the place is usr/lib/os-release
abbrev pub is_usr_place : Option Place → Bool
is_usr_place (Some place.UsrOs) = true
is_usr_place _ = false

-- the file stands at etc/os-release
abbrev pub is_etc_os : FileFound → Bool
is_etc_os file = is_etc_place (place_of file.path)

-- the file stands at usr/lib/os-release
abbrev pub is_usr_os : FileFound → Bool
is_usr_os file = is_usr_place (place_of file.path)

-- the files that count, where etc/os-release is among them or not: beside it usr/lib/os-release does not
abbrev pub counted_by : Bool → List FileFound → List FileFound
counted_by etc files = filter (λ file. not (etc && is_usr_os file)) files

-- the files that count
abbrev pub counted : List FileFound → List FileFound
counted files = counted_by (list_any is_etc_os files) files

-- the system that a file names, if it is an os-release
abbrev pub system_in : Found → Option OsName
system_in (Status packages) = None
system_in (Installed packages) = None
system_in (Os name) = Some name
system_in (Npm «package») = None
system_in (Pypi «package») = None
system_in (Bad bad) = None
system_in TooLarge = None

-- the system that the first os-release names
abbrev pub system : List FileFound → Option OsName
system [] = None
system (file ∷ files) = option_or (system_in file.found) (system files)

-- a package of dpkg's database, with where it stands and the system that it is of
abbrev pub deb_package : Option OsName → Path → DebPackage → Package
deb_package os path p = package_with kind.Deb path (eco os kind.Deb) (deb_texts p)

-- the same of an apk package
abbrev pub apk_package : Option OsName → Path → ApkPackage → Package
apk_package os path p = package_with kind.Apk path (eco os kind.Apk) (apk_texts p)

-- the same of an npm package
abbrev pub npm_package : Option OsName → Path → NpmPackage → Package
npm_package os path p = package_with kind.Npm path (eco os kind.Npm) (npm_texts p)

-- the same of a Python package
abbrev pub pypi_package : Option OsName → Path → PypiPackage → Package
pypi_package os path p = package_with kind.Pypi path (eco os kind.Pypi) (pypi_texts p)

-- the packages of a file at a path, or its refusal
abbrev pub packages_in : Option OsName → Path → Found → Result (List Package) FileFault
packages_in os path (Status found) = Ok (map (deb_package os path) found)
packages_in os path (Installed found) = Ok (map (apk_package os path) found)
packages_in os path (Os name) = Ok []
packages_in os path (Npm found) = Ok (map (npm_package os path) (option_to_list found))
packages_in os path (Pypi found) = Ok (map (pypi_package os path) (option_to_list found))
packages_in os path (Bad bad) = Err (fault.BadFile path bad.line bad.what)
packages_in os path TooLarge = Err (fault.TooLarge path)

-- the packages of files, one after the other, or the first refusal
abbrev pub all_packages : Option OsName → List FileFound → Result (List Package) FileFault
all_packages os [] = Ok []
all_packages os (file ∷ files) = packages_in os file.path file.found >>= λ ps. all_packages os files >>= λ qs. Ok (ps ++ qs)

-- the packages of the package files of a root
abbrev pub assembled : List FileFound → Result (List Package) FileFault
assembled files = all_packages (system (counted files)) (counted files)

-- the packages of a root
unfoldable pub packages : List TreeEntry → Result (List Package) FileFault
packages entries = assembled (files_found entries)
