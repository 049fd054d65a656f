-- Which packages an advisory affects, and which version has the fix, after the OSV schema 1.6. Defined by this project
-- are how the ecosystem of a record matches that of a package, and the choice of the fixed version.
use Rattle.std.specs.Prelude.{ℕ, Bool, false, not, ◌&&◌, ◌||◌, ◌==◌, List, take, Option, Some, None, map, find, filter, option_and_then}
use Rattle.std.specs.List.{flat_map, list_any, position}
use Rattle.cv_base.specs.Texts.{same}
use Rattle.cv_base.specs.declared.«package».Package.{Package}
use Rattle.cv_base.specs.declared.«package».PackageName.{PackageName}
use Rattle.cv_base.specs.declared.«package».PackageKind.{PackageKind}
use Rattle.cv_base.specs.declared.«package».PackageKind.TheVariants.{Deb, Apk, Npm, Pypi}
use Rattle.cv_base.specs.declared.advisory.Advisory.{Advisory}
use Rattle.cv_base.specs.declared.advisory.Affected.{Affected}
use Rattle.cv_base.specs.declared.advisory.Range.{Range}
use Rattle.cv_match_range.specs.Fix.{fix_text, is_least_fix}
use Rattle.cv_match_range.specs.Order.{version_cmp_of}
use Rattle.cv_match_range.specs.Within.{placed, within}

-- 58 is `:`
abbrev pub is_colon : ℕ → Bool
is_colon byte = byte == 58

-- what comes before the first colon of an ecosystem, as `Debian` of `Debian:12`; all of it, if there is none
abbrev pub cut_at : List ℕ → Option ℕ → List ℕ
cut_at ecosystem None = ecosystem
cut_at ecosystem (Some place) = take place ecosystem

-- an ecosystem up to its first colon (OSV schema 1.6)
abbrev pub family : List ℕ → List ℕ
family ecosystem = cut_at ecosystem (position is_colon ecosystem)

-- a record's ecosystem matches the package's, or the part of it before the first colon
abbrev pub matches_ecosystem : List ℕ → List ℕ → Bool
matches_ecosystem of_record of_package = same of_record of_package || same of_record (family of_package)

-- advisories name the source of a package for deb, apk and pypi, and the package itself for npm. The source of a Python package
-- is its normalized name
abbrev pub key_name_of : PackageKind → Package → List ℕ
key_name_of Deb p = p.source
key_name_of Apk p = p.source
key_name_of Npm p = p.name
key_name_of Pypi p = p.source

-- the version that counts is that of what they name
abbrev pub version_of : PackageKind → Package → List ℕ
version_of Deb p = p.source_version
version_of Apk p = p.source_version
version_of Npm p = p.version
version_of Pypi p = p.source_version

-- the name under which a record has this package; takes a package
abbrev pub key_name : Package → List ℕ
key_name p = key_name_of p.kind p

-- the version that is compared; takes a package
abbrev pub matched_version : Package → List ℕ
matched_version p = version_of p.kind p

-- the affected package of a record is this one, by ecosystem and name: none, where a record names no package
abbrev pub matches : Package → Option PackageName → Bool
matches p None = false
matches p (Some name) = same name.name (key_name p) && matches_ecosystem name.ecosystem p.ecosystem

-- the entry lists the version, as an equal text
abbrev pub lists : Package → Affected → Bool
lists p entry = list_any (λ version. same version (matched_version p)) entry.versions

-- the version is within the range
abbrev pub has_within : Package → Range → Bool
has_within p range = within p.kind range (matched_version p)

-- the entry is about this package and has its version
abbrev pub is_affected_by : Package → Affected → Bool
is_affected_by p entry = matches p entry.«package» && (lists p entry || list_any (has_within p) entry.ranges)

-- the record affects the package; takes a record and a package
unfoldable pub affects : Advisory → Package → Bool
affects a p = not a.withdrawn && list_any (is_affected_by p) a.affected

-- the least fix of the range above the version, the first listed of equal ones
abbrev pub least_fix : Package → Range → Option (List ℕ)
least_fix p range = let events = map placed range.turns in
    option_and_then fix_text (find (is_least_fix (version_cmp_of p.kind) events (matched_version p)) events)

-- the ranges of the entries that match, in order
abbrev pub matching_ranges : Package → List Affected → List Range
matching_ranges p entries = flat_map (λ entry. entry.ranges) (filter (λ entry. matches p entry.«package») entries)

-- the fixed version that the record names for the package; takes a record and a package. It is that of the first range that
-- has the version within, and none if that range has no fix above the version
unfoldable pub fixed : Advisory → Package → Option (List ℕ)
fixed a p = option_and_then (least_fix p) (find (has_within p) (matching_ranges p a.affected))
