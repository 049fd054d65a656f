-- The names of a file are those of its packages, whatever the system.
use Rattle.std.specs.Prelude.{◌≡◌, ℕ, List, [], ◌∷◌, ◌++◌, map, Option, None, Result, Ok, Err}
use Rattle.std.specs.List.{flat_map}
use Rattle.std.specs.Option.{option_to_list}
use Rattle.std.proofs.Common.{ap, refl, sym, ◌∙◌}
use Rattle.std.proofs.lemmas.List.{map-append}
use Rattle.std.proofs.lemmas.Simd.{map-map}
use Rattle.cv_apkdb.specs.declared.package.ApkPackage.{ApkPackage}
use Rattle.cv_base.specs.Path.{Path}
use Rattle.cv_base.specs.Results.{◌>>=◌}
use Rattle.cv_base.specs.declared.«package».Package.{Package}
use Rattle.cv_dpkg.specs.declared.package.DebPackage.{DebPackage}
use Rattle.cv_match.specs.Affects.{key_name}
use Rattle.cv_npm.specs.declared.package.NpmPackage.{NpmPackage}
use Rattle.cv_osrel.specs.declared.name.OsName.{OsName}
use Rattle.cv_packages.specs.Packages.{all_packages, apk_package, deb_package, npm_package, packages_in, pypi_package}
use Rattle.cv_packages.specs.declared.error.FileFault.{FileFault}
use Rattle.cv_packages.specs.declared.found.FileFound.{FileFound}
use Rattle.cv_packages.specs.declared.found.Found.{Found}
use Rattle.cv_packages.specs.declared.found.Found.TheVariants.{Status, Installed, Os, Npm, Pypi, Bad, TooLarge}
use Rattle.cv_pypi.specs.declared.package.PypiPackage.{PypiPackage}
use Rattle.cv_layer_names.specs.Names.{file_names, names_in}

-- By reader.

pub deb_names : (os : Option OsName) (path : Path) (found : List DebPackage) → map key_name (map (deb_package os path) found) ≡ map (λ p. p.source) found
deb_names os path found = map-map key_name (deb_package os path) found

pub apk_names : (os : Option OsName) (path : Path) (found : List ApkPackage) → map key_name (map (apk_package os path) found) ≡ map (λ p. p.origin) found
apk_names os path found = map-map key_name (apk_package os path) found

npm_names : (os : Option OsName) (path : Path) (found : List NpmPackage) → map key_name (map (npm_package os path) found) ≡ map (λ p. p.name) found
npm_names os path found = map-map key_name (npm_package os path) found

pypi_names : (os : Option OsName) (path : Path) (found : List PypiPackage) → map key_name (map (pypi_package os path) found) ≡ map (λ p. p.source) found
pypi_names os path found = map-map key_name (pypi_package os path) found

-- the system does not enter the names
any_system : (os : Option OsName) (path : Path) (found : Found) → names_in (packages_in os path found) ≡ names_in (packages_in None path found)
any_system os path (Status found) = deb_names os path found ∙ sym (deb_names None path found)
any_system os path (Installed found) = apk_names os path found ∙ sym (apk_names None path found)
any_system os path (Os name) = refl
any_system os path (Npm found) = npm_names os path (option_to_list found) ∙ sym (npm_names None path (option_to_list found))
any_system os path (Pypi found) = pypi_names os path (option_to_list found) ∙ sym (pypi_names None path (option_to_list found))
any_system os path (Bad bad) = refl
any_system os path TooLarge = refl

-- the packages of files have their names, one after the other
pub names_of_all : (os : Option OsName) (files : List FileFound) (found : List Package) → all_packages os files ≡ Ok found → map key_name found ≡ flat_map file_names files
names_of_all os [] found h = sym (ap names_in h)
names_of_all os (file ∷ files) found h = by_parts (packages_in os file.path file.found) refl (all_packages os files) refl (names_of_all os files) h
  where
    by_parts : (first : Result (List Package) FileFault) → packages_in os file.path file.found ≡ first
        → (rest : Result (List Package) FileFault) → all_packages os files ≡ rest
        → ((qs : List Package) → all_packages os files ≡ Ok qs → map key_name qs ≡ flat_map file_names files)
        → (first >>= λ (ps : List Package). rest >>= λ (qs : List Package). Ok (ps ++ qs)) ≡ Ok found
        → map key_name found ≡ file_names file ++ flat_map file_names files
    by_parts (Err e) k rest l more h = cc
    by_parts (Ok ps) k (Err e) l more h = cc
    by_parts (Ok ps) k (Ok qs) l more h =
        let front : map key_name ps ≡ file_names file = sym (ap names_in k) ∙ any_system os file.path file.found in
        sym (ap names_in h)
        ∙ map-append key_name ps qs
        ∙ ap (λ (names : List (List ℕ)). names ++ map key_name qs) front
        ∙ ap (λ (names : List (List ℕ)). file_names file ++ names) (more qs l)
