-- The texts of a package, by the database or the file that names it (defined by this project). The database of apk gives no version of
-- the source: the package's own stands for it. An npm package is its own source and has no architecture. Neither has a Python
-- package, whose source is its name as indexes know it.
use Rattle.std.specs.Prelude.{ℕ, List, []}
use Rattle.cv_base.specs.Path.{Path}
use Rattle.cv_base.specs.declared.package.Package.{Package}
use Rattle.cv_base.specs.declared.package.PackageKind.{PackageKind}
use Rattle.cv_dpkg.specs.declared.package.DebPackage.{DebPackage}
use Rattle.cv_apkdb.specs.declared.package.ApkPackage.{ApkPackage}
use Rattle.cv_npm.specs.declared.package.NpmPackage.{NpmPackage}
use Rattle.cv_pypi.specs.declared.package.PypiPackage.{PypiPackage}

-- the texts of a package
pub record Texts : Type 0 where
  pub name : List ℕ
  pub version : List ℕ
  pub source : List ℕ
  pub source_version : List ℕ
  pub arch : List ℕ

-- those of a package that is its own source and has no architecture
abbrev pub own_texts : List ℕ → List ℕ → Texts
own_texts name version = record { name = name; version = version; source = name; source_version = version; arch = [] }

-- those of a package of dpkg
abbrev pub deb_texts : DebPackage → Texts
deb_texts p = record { name = p.name; version = p.version; source = p.source; source_version = p.source_version; arch = p.arch }

-- those of a package of apk
abbrev pub apk_texts : ApkPackage → Texts
apk_texts p = record { name = p.name; version = p.version; source = p.origin; source_version = p.version; arch = p.arch }

-- those of a package of npm
abbrev pub npm_texts : NpmPackage → Texts
npm_texts p = own_texts p.name p.version

-- those of a Python package
abbrev pub pypi_texts : PypiPackage → Texts
pypi_texts p = record { name = p.name; version = p.version; source = p.source; source_version = p.version; arch = [] }

-- the package of a kind, at a path and of an ecosystem, with these texts
abbrev pub package_with : PackageKind → Path → List ℕ → Texts → Package
package_with kind path ecosystem t = record {
  kind = kind;
  path = path;
  name = t.name;
  version = t.version;
  source = t.source;
  source_version = t.source_version;
  arch = t.arch;
  ecosystem = ecosystem;
}
