-- The packages of small roots, computed.
use Rattle.std.specs.Prelude.{◌≡◌, ℕ, List, [], ◌∷◌, codes, Option, Some, None, Ok, Err, refl}
use lib.Utf8.{encode}
use Rattle.std.specs.Str.{is_utf8, chars}
use Rattle.cv_base.specs.Path.{components}
use Rattle.cv_base.specs.declared.fault.What.TheVariants as what
use Rattle.cv_base.specs.declared.«package».Package.{Package}
use Rattle.cv_base.specs.declared.«package».PackageKind.{PackageKind}
use Rattle.cv_base.specs.declared.«package».PackageKind.TheVariants.{Deb, Apk, Npm, Pypi}
use Rattle.cv_base.specs.declared.tree.Content.TheVariants as content
use Rattle.cv_base.specs.declared.tree.Node.TheVariants as node
use Rattle.cv_base.specs.declared.tree.TreeEntry.{TreeEntry}
use Rattle.cv_packages.specs.Packages.{assembled, packages}
use Rattle.cv_packages.specs.Texts.{package_with}
use Rattle.cv_npm.specs.declared.package.NpmPackage.{NpmPackage}
use Rattle.cv_packages.specs.declared.found.FileFound.{FileFound}
use Rattle.cv_packages.specs.declared.found.Found.TheVariants as found
use Rattle.cv_packages.specs.declared.error.FileFault.TheVariants.{BadFile, TooLarge}

abbrev file : List ℕ → List ℕ → TreeEntry
file text bytes = record { path = components text; node = node.File (content.Bytes bytes) }

abbrev other : List ℕ → TreeEntry
other text = record { path = components text; node = node.Other }

abbrev large : List ℕ → TreeEntry
large text = record { path = components text; node = node.File content.TooLarge }

abbrev etc_debian : TreeEntry
etc_debian = file (codes "etc/os-release") (codes "ID=debian\nVERSION_ID=12\n")

abbrev usr_alpine : TreeEntry
usr_alpine = file (codes "usr/lib/os-release") (codes "ID=alpine\nVERSION_ID=3.18.4\n")

-- a package by the text of its path, its name and version, its source of the same version, its architecture and its ecosystem
abbrev pub package_of : PackageKind → List ℕ → List ℕ → List ℕ → List ℕ → List ℕ → List ℕ → Package
package_of kind path name version source arch ecosystem =
    package_with kind (components path) ecosystem (record { name = name; version = version; source = source; source_version = version; arch = arch })

-- a status file with one package, and the package
abbrev zlib : TreeEntry
zlib = file (codes "var/lib/dpkg/status") (codes "Package: zlib\nStatus: install ok installed\nVersion: 1\n")

abbrev pub zlib_of : List ℕ → Package
zlib_of ecosystem = package_of Deb (codes "var/lib/dpkg/status") (codes "zlib") (codes "1") (codes "zlib") [] ecosystem

-- a Python package by the text of its path, its name and version, and its source
abbrev pub python_of : List ℕ → List ℕ → List ℕ → List ℕ → Package
python_of path name version source = package_of Pypi path name version source [] (codes "PyPI")

abbrev debian_found : FileFound
debian_found = record { path = components (codes "etc/os-release"); found = found.Os (record { id = codes "debian"; version = Some (codes "12") }) }

abbrev npm_found : List ℕ → Option NpmPackage → FileFound
npm_found text named = record { path = components text; found = found.Npm named }

-- etc/os-release counts before usr/lib/os-release, as also a file without assignments
etc_counts : (packages (etc_debian ∷ usr_alpine ∷ zlib ∷ []) ≡ Ok (zlib_of (codes "Debian:12") ∷ []))
    × (packages (file (codes "etc/os-release") [] ∷ usr_alpine ∷ zlib ∷ []) ≡ Ok (zlib_of (codes "linux") ∷ []))
unfolding packages is_utf8 chars encode
etc_counts = (refl, refl)

-- if the former is no file, as a link, the latter counts
usr_counts : packages (other (codes "etc/os-release") ∷ usr_alpine ∷ zlib ∷ []) ≡ Ok (zlib_of (codes "Alpine:v3.18") ∷ [])
unfolding packages is_utf8 chars encode
usr_counts = refl

-- without either the system is unknown
no_system : packages (zlib ∷ []) ≡ Ok (zlib_of (codes "unknown") ∷ [])
unfolding packages
no_system = refl

-- one that does not count is ignored, and one that counts may not be too large
large_system : (packages (etc_debian ∷ large (codes "usr/lib/os-release") ∷ []) ≡ Ok []) × (packages (large (codes "etc/os-release") ∷ usr_alpine ∷ []) ≡ Err (TooLarge (components (codes "etc/os-release"))))
unfolding packages
large_system = (refl, refl)

-- a paragraph without a Status is a package in a file of the folder, and a fault in the status file
status_optional : packages (file (codes "var/lib/dpkg/status.d/base") (codes "Package: base-files\nVersion: 12.4\nArchitecture: amd64\n") ∷ [])
    ≡ Ok (package_of Deb (codes "var/lib/dpkg/status.d/base") (codes "base-files") (codes "12.4") (codes "base-files") (codes "amd64") (codes "unknown") ∷ [])
unfolding packages
status_optional = refl

-- an apk package has its origin as its source, and its own version for that
apk : packages (file (codes "lib/apk/db/installed") (codes "P:libssl3\nV:3.1.4-r1\nA:x86_64\no:openssl\n") ∷ usr_alpine ∷ [])
    ≡ Ok (package_of Apk (codes "lib/apk/db/installed") (codes "libssl3") (codes "3.1.4-r1") (codes "openssl") (codes "x86_64") (codes "Alpine:v3.18") ∷ [])
unfolding packages is_utf8 chars encode
apk = refl

-- an npm package is its own source, has no architecture, and is of npm on every system; a file that names none has none
npm : assembled (debian_found ∷ npm_found (codes "node_modules/@s/n/package.json") (Some (record { name = codes "@s/n"; version = codes "1.0.0" })) ∷ npm_found (codes "node_modules/x/package.json") None ∷ [])
    ≡ Ok (package_of Npm (codes "node_modules/@s/n/package.json") (codes "@s/n") (codes "1.0.0") (codes "@s/n") [] (codes "npm") ∷ [])
npm = refl

-- a Python package has its name as indexes know it as its source, has no architecture, and is of PyPI on every system; a file that names
-- none has none
pypi : packages (file (codes "a.dist-info/METADATA") (codes "Version: 1\n") ∷ etc_debian ∷ file (codes "opt/Foo_Bar-1.0.dist-info/METADATA") (codes "Name: Foo.Bar\nVersion: 1.0\n\ntext\n") ∷ [])
    ≡ Ok (python_of (codes "opt/Foo_Bar-1.0.dist-info/METADATA") (codes "Foo.Bar") (codes "1.0") (codes "foo-bar") ∷ [])
unfolding packages is_utf8 chars encode
pypi = refl

-- the first refused file in the order of paths is named, whatever its reader
first_refused : (packages (file (codes "lib/apk/db/installed") (codes "P:a\nV:1\nx\n") ∷ large (codes "var/lib/dpkg/status") ∷ []) ≡ Err (BadFile (components (codes "lib/apk/db/installed")) 3 what.NoColon))
    × (packages (zlib ∷ large (codes "var/lib/dpkg/status.d/a") ∷ file (codes "var/lib/dpkg/status.d/b") (codes "nocolon\n") ∷ []) ≡ Err (TooLarge (components (codes "var/lib/dpkg/status.d/a"))))
unfolding packages
first_refused = (refl, refl)

-- a file away from the places, and what is no file at one of them
ignored : packages (large (codes "srv/data") ∷ other (codes "var/lib/dpkg/status") ∷ []) ≡ Ok []
unfolding packages
ignored = refl
