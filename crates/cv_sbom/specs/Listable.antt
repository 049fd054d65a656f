-- What can be written as a component list and read again (defined by this project): texts in UTF-8, and paths below the top of a
-- layer. All that is read from the package files of an image is so.
use Rattle.std.specs.Prelude.{◌≡◌, ℕ, Bool, true, List, length}
use Rattle.std.specs.List.{AllByRecursion}
use Rattle.std.specs.Str.{IsUtf8}
use Rattle.cv_base.specs.Path.{IsPath, path_text}
use Rattle.cv_base.specs.Texts.{is_cons}
use Rattle.cv_base.specs.declared.package.Package.{Package}
use Rattle.hex.specs.Hex.{IsBytes}

-- the 32 bytes of a digest
pub record IsDigest (digest : List ℕ) : Type 0 where
  pub count : length digest ≡ 32
  pub bytes : IsBytes digest

-- the path of a package is one of a layer
abbrev pub HasPath : Package → Type 0
HasPath p = IsPath p.path

-- whether it is below the top
abbrev pub is_below_top : Package → Bool
is_below_top p = is_cons p.path

-- the path of a package is one of a layer, below the top
pub record IsPlaced (p : Package) : Type 0 where
  pub path : HasPath p
  pub below_top : is_below_top p ≡ true

-- all that a package says is in UTF-8
pub record IsSpelled (p : Package) : Type 0 where
  pub name : IsUtf8 p.name
  pub version : IsUtf8 p.version
  pub source : IsUtf8 p.source
  pub source_version : IsUtf8 p.source_version
  pub arch : IsUtf8 p.arch
  pub ecosystem : IsUtf8 p.ecosystem
  pub path : IsUtf8 (path_text p.path)

-- a package that can be listed
abbrev pub IsListable : Package → Type 0
IsListable p = IsSpelled p × IsPlaced p

-- the packages can be listed
abbrev pub AreListable : List Package → Type 0
AreListable packages = AllByRecursion IsListable packages

-- the packages stand below the top
abbrev pub ArePlaced : List Package → Type 0
ArePlaced packages = AllByRecursion IsPlaced packages
