-- What a JSON value is as a record of the OSV schema 1.6 (https://ossf.github.io/osv-schema/): `advisory_of` takes the
-- value as `Data` of serde_json, and gives the `Advisory` of cv_base, or the first fault as a `RecordWhat`.
-- Defined by this project are the order of the faults, which is that of `Faults.antt`; that null counts as absent; and that
-- unknown members are ignored, among them those that no answer needs (summary, details, severity, references).
use Rattle.std.specs.Prelude.{ℕ, if◌then◌else◌, List, [], ◌∷◌, ◌++◌, codes, Option, Some, None, is_some, option_map, Result, Ok, Err}
use Rattle.std.specs.Option.{option_to_list}
use Rattle.cv_base.specs.Results.{◌>>=◌}
use Rattle.cv_base.specs.Texts.{same}
use Rattle.cv_base.specs.declared.advisory.Advisory.{Advisory}
use Rattle.cv_base.specs.declared.advisory.Affected.{Affected}
use Rattle.cv_base.specs.declared.advisory.Range.{Range}
use Rattle.cv_base.specs.declared.advisory.RangeKind.{RangeKind}
use Rattle.cv_base.specs.declared.advisory.RangeKind.TheVariants.{Ecosystem, Semver, Other}
use Rattle.cv_base.specs.declared.advisory.Turn.{Turn}
use Rattle.cv_base.specs.declared.advisory.Turn.TheVariants.{Introduced, Fixed, LastAffected, Limit}
use Rattle.cv_base.specs.declared.package.PackageName.{PackageName}
use Rattle.cv_osv.specs.Json.{member_at, object_or, text_or, optional_text_or, items_or, each, each_joined}
use Rattle.cv_osv.specs.declared.record_error.RecordWhat.{RecordWhat}
use Rattle.cv_osv.specs.declared.record_error.RecordWhat.TheVariants.{NotObject, NoId, NoModified, BadWithdrawn, BadAffected, BadEntry, BadPackage, BadRange, BadEvent, BadVersions}
use Rattle.serde_json.specs.Data.{Data}

-- a text that is not empty
abbrev pub full_or : RecordWhat → List ℕ → Result (List ℕ) RecordWhat
full_or bad [] = Err bad
full_or bad (c ∷ cs) = Ok (c ∷ cs)

-- the turn that a member of an event gives: none if it is absent
abbrev pub turn_of : List ℕ → (List ℕ → Turn) → Data → Result (List Turn) RecordWhat
turn_of name make d = do
  version ← optional_text_or BadEvent (member_at name d)
  Ok (option_to_list (option_map make version))

-- an event: a turn for each of its known members, in this order
unfoldable pub turns_of : Data → Result (List Turn) RecordWhat
turns_of d = do
  _ ← object_or BadEvent d
  introduced ← turn_of (codes "introduced") Introduced d
  fixed ← turn_of (codes "fixed") Fixed d
  last_affected ← turn_of (codes "last_affected") LastAffected d
  limit ← turn_of (codes "limit") Limit d
  Ok (introduced ++ fixed ++ last_affected ++ limit)

-- the type of a range: every other one, as GIT, is Other
unfoldable pub kind_of : List ℕ → RangeKind
kind_of name =
    if same name (codes "ECOSYSTEM") then Ecosystem
    else (if same name (codes "SEMVER") then Semver else Other)

-- a range
unfoldable pub range_of : Data → Result Range RecordWhat
range_of d = do
  kind ← text_or BadRange (member_at (codes "type") d)
  events ← items_or BadEvent (member_at (codes "events") d)
  turns ← each_joined turns_of events
  Ok (record { kind = kind_of kind; turns = turns })

-- a package
unfoldable pub package_of : Data → Result PackageName RecordWhat
package_of d = do
  ecosystem ← text_or BadPackage (member_at (codes "ecosystem") d)
  name ← text_or BadPackage (member_at (codes "name") d)
  Ok (record { ecosystem = ecosystem; name = name })

-- a package that may be absent
abbrev pub optional_package_of : Option Data → Result (Option PackageName) RecordWhat
optional_package_of None = Ok None
optional_package_of (Some d) = package_of d >>= λ name. Ok (Some name)

-- an item of `versions`
abbrev pub version_of : Data → Result (List ℕ) RecordWhat
version_of d = text_or BadVersions (Some d)

-- an affected entry
unfoldable pub entry_of : Data → Result Affected RecordWhat
entry_of d = do
  _ ← object_or BadEntry d
  name ← optional_package_of (member_at (codes "package") d)
  ranges ← items_or BadRange (member_at (codes "ranges") d)
  ranges_read ← each range_of ranges
  versions ← items_or BadVersions (member_at (codes "versions") d)
  versions_read ← each version_of versions
  Ok (record { «package» = name; ranges = ranges_read; versions = versions_read })

-- a record; one with a `withdrawn` is withdrawn
unfoldable pub advisory_of : Data → Result Advisory RecordWhat
advisory_of d = do
  _ ← object_or NotObject d
  name ← text_or NoId (member_at (codes "id") d)
  id ← full_or NoId name
  modified ← text_or NoModified (member_at (codes "modified") d)
  withdrawn ← optional_text_or BadWithdrawn (member_at (codes "withdrawn") d)
  entries ← items_or BadAffected (member_at (codes "affected") d)
  affected ← each entry_of entries
  Ok (record { id = id; modified = modified; withdrawn = is_some withdrawn; affected = affected })
