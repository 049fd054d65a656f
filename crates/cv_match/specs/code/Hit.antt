-- Words for the clauses of private functions: the answer of the entries of a record, once they are read.
use Rattle.std.specs.Prelude.{ℕ, Bool, false, ◌&&◌, if◌then◌else◌, List, Option, Some, None, option_map}
use Rattle.std.specs.List.{list_any, position_from, slice_get}
use Rattle.std.specs.Option.{option_and_then}
use Rattle.std.specs.declared.cmp.Ordering.{Ordering}
use Rattle.cv_base.specs.Texts.{same}
use Rattle.cv_base.specs.declared.«package».Package.{Package}
use Rattle.cv_base.specs.declared.«package».PackageName.{PackageName}
use Rattle.cv_base.specs.declared.«package».PackageKind.{PackageKind}
use Rattle.cv_match.specs.declared.answer.FixedAt.{FixedAt}
use Rattle.cv_match.specs.declared.answer.Hit.{Hit}
use Rattle.cv_match.specs.declared.answer.Hit.TheVariants.{No, Yes}
use Rattle.cv_match.specs.declared.entry.PreparedEntry.{PreparedEntry}
use Rattle.cv_match.specs.declared.key.PackageKey.{PackageKey}
use Rattle.cv_match_range.specs.declared.placed.Placed.{Placed}
use Rattle.cv_match.specs.Affects.{key_name, matched_version, matches_ecosystem}
use Rattle.cv_match_range.specs.Order.{version_cmp_of}
use Rattle.cv_match_range.specs.ReadRange.{fix_in, range_holds}

-- what is compared with a record
abbrev pub key_of : Package → PackageKey
key_of p = record { ecosystem = p.ecosystem; name = key_name p; version = matched_version p }

-- a record's name is that of the package
abbrev pub key_matches : PackageKey → Option PackageName → Bool
key_matches key None = false
key_matches key (Some name) = same name.name key.name && matches_ecosystem name.ecosystem key.ecosystem

-- the entry lists the version
abbrev pub entry_lists : PackageKey → PreparedEntry (List ℕ) → Bool
entry_lists key entry = key_matches key entry.«package» && list_any (λ version. same version key.version) entry.versions

-- the version is within some range of the entry
abbrev pub entry_holds : (List ℕ → List ℕ → Ordering) → PackageKey → List ℕ → PreparedEntry (List ℕ) → Bool
entry_holds R key version entry = key_matches key entry.«package» && list_any (range_holds R version) entry.ranges

-- the place of the fixed version in the range of this number
abbrev pub fixed_in : (List ℕ → List ℕ → Ordering) → List ℕ → ℕ → List (Option (List (Placed (List ℕ)))) → ℕ → Option FixedAt
fixed_in R version entry ranges range =
    option_and_then (λ events. option_map (λ turn. record { entry = entry; range = range; turn = turn }) (fix_in R version events)) (slice_get ranges range)

-- and in the first one that has the version within
abbrev pub fixed_at : (List ℕ → List ℕ → Ordering) → List ℕ → ℕ → PreparedEntry (List ℕ) → Option FixedAt
fixed_at R version place entry =
    option_and_then (λ range. fixed_in R version place entry.ranges range) (position_from (range_holds R version) 0 entry.ranges)

-- where no range has the version within
abbrev pub hit_listed : PackageKey → List (PreparedEntry (List ℕ)) → Hit
hit_listed key entries = if list_any (entry_lists key) entries then Yes None else No

-- where the entry of this number is the first one that has the version within
abbrev pub hit_within : (List ℕ → List ℕ → Ordering) → PackageKey → List ℕ → List (PreparedEntry (List ℕ)) → Option ℕ → Hit
hit_within R key version entries None = hit_listed key entries
hit_within R key version entries (Some place) = Yes (option_and_then (fixed_at R version place) (slice_get entries place))

-- the answer for a package, whose version may be none of the order
abbrev pub hit_of : PackageKind → PackageKey → Option (List ℕ) → List (PreparedEntry (List ℕ)) → Hit
hit_of kind key None entries = hit_listed key entries
hit_of kind key (Some version) entries = hit_within (version_cmp_of kind) key version entries
    (position_from (entry_holds (version_cmp_of kind) key version) 0 entries)
