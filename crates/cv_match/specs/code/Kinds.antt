-- What was read for one kind of package, by the texts of its versions.
use Rattle.std.specs.Prelude.{ℕ, List, map, Option, option_map}
use Rattle.cv_base.specs.declared.«package».PackageKind.{PackageKind}
use Rattle.cv_base.specs.declared.«package».PackageKind.TheVariants as kind
use Rattle.cv_match.specs.declared.entry.PreparedEntries.{PreparedEntries}
use Rattle.cv_match.specs.declared.entry.PreparedEntries.TheVariants as entries
use Rattle.cv_match.specs.declared.entry.PreparedEntry.{PreparedEntry}
use Rattle.cv_match.specs.declared.entry.PreparedVersion.{PreparedVersion}
use Rattle.cv_match.specs.declared.entry.PreparedVersion.TheVariants as version
use Rattle.cv_match.specs.code.Entries.{entry_text}

-- the kind of packages that entries are prepared for
abbrev pub entries_kind : PreparedEntries → PackageKind
entries_kind (entries.Deb es) = kind.Deb
entries_kind (entries.Apk es) = kind.Apk
entries_kind (entries.Npm es) = kind.Npm
entries_kind (entries.Pypi es) = kind.Pypi

-- prepared entries, by the texts of their versions
abbrev pub entries_text : PreparedEntries → List (PreparedEntry (List ℕ))
entries_text (entries.Deb es) = map (entry_text (λ v. v)) es
entries_text (entries.Apk es) = map (entry_text (λ v. v)) es
entries_text (entries.Npm es) = map (entry_text (λ v. v)) es
entries_text (entries.Pypi es) = map (entry_text (λ v. v)) es

-- the kind of packages that a version is prepared for
abbrev pub version_kind : PreparedVersion → PackageKind
version_kind (version.Deb v) = kind.Deb
version_kind (version.Apk v) = kind.Apk
version_kind (version.Npm v) = kind.Npm
version_kind (version.Pypi v) = kind.Pypi

-- the text of a prepared version
abbrev pub version_text : PreparedVersion → Option (List ℕ)
version_text (version.Deb v) = option_map (λ w. w) v
version_text (version.Apk v) = option_map (λ w. w) v
version_text (version.Npm v) = option_map (λ w. w) v
version_text (version.Pypi v) = option_map (λ w. w) v
