-- The package that a component is, in this project's profile of CycloneDX 1.5: the component's name and version, and six
-- properties. A component of another tool lacks them, and is no package.
use Rattle.std.specs.Prelude.{ℕ, if◌then◌else◌, List, codes, Option, Some, None, option_and_then}
use Rattle.std.specs.Result.{result_ok}
use Rattle.serde_json.specs.Data.{Data}
use Rattle.cv_base.specs.Path.{Path, path_of}
use Rattle.cv_base.specs.Texts.{same}
use Rattle.cv_base.specs.declared.package.Package.{Package}
use Rattle.cv_base.specs.declared.package.PackageKind.{PackageKind}
use Rattle.cv_base.specs.declared.package.PackageKind.TheVariants.{Deb, Apk, Npm, Pypi}
use Rattle.cv_sbom.specs.Member.{items_at, property, text_at}

-- the texts of a component
pub record Texts : Type 0 where
  pub name : List ℕ
  pub version : List ℕ
  pub arch : List ℕ
  pub ecosystem : List ℕ
  pub kind : List ℕ
  pub path : List ℕ
  pub source : List ℕ
  pub source_version : List ℕ

-- what follows from a part that is present
infixl 10 ◌>>=◌
abbrev pub ◌>>=◌ : {A B : Type 0} → Option A → (A → Option B) → Option B
found >>= f = option_and_then f found

-- the texts of a component, if they are all present
unfoldable pub texts_of : Data → Option Texts
texts_of component = do
  name ← text_at (codes "name") component
  version ← text_at (codes "version") component
  properties ← items_at (codes "properties") component
  arch ← property (codes "cvwatch:arch") properties
  ecosystem ← property (codes "cvwatch:ecosystem") properties
  kind ← property (codes "cvwatch:kind") properties
  path ← property (codes "cvwatch:path") properties
  source ← property (codes "cvwatch:source") properties
  source_version ← property (codes "cvwatch:source_version") properties
  Some (record { name = name; version = version; arch = arch; ecosystem = ecosystem; kind = kind; path = path; source = source; source_version = source_version })

-- the kind with this name
abbrev pub kind_of : List ℕ → Option PackageKind
kind_of name =
    if same name (codes "deb") then Some Deb
    else (if same name (codes "apk") then Some Apk
    else (if same name (codes "npm") then Some Npm
    else (if same name (codes "pypi") then Some Pypi else None)))

-- the package of a kind, at a path, with these texts
abbrev pub package_with : PackageKind → Path → Texts → Package
package_with kind path texts = record {
  kind = kind;
  path = path;
  name = texts.name;
  version = texts.version;
  source = texts.source;
  source_version = texts.source_version;
  arch = texts.arch;
  ecosystem = texts.ecosystem;
}

-- the package that a component is: its kind is a known one, and its path one of a layer
unfoldable pub package_in : Data → Option Package
package_in component = do
  texts ← texts_of component
  kind ← kind_of texts.kind
  path ← result_ok (path_of texts.path)
  Some (package_with kind path texts)
