-- Records read by the definition, computed.
use Rattle.std.specs.Prelude.{◌≡◌, ℕ, true, false, List, [], ◌∷◌, codes, Some, None, Ok, Err, refl}
use Rattle.cv_base.specs.declared.advisory.RangeKind.TheVariants.{Ecosystem, Semver, Other}
use Rattle.cv_base.specs.declared.advisory.Turn.TheVariants.{Introduced, Fixed, LastAffected, Limit}
use Rattle.cv_osv.specs.Record.{advisory_of, entry_of, package_of, range_of, kind_of, turns_of}
use Rattle.cv_osv.specs.declared.record_error.RecordWhat.TheVariants.{NotObject, NoId, NoModified, BadWithdrawn, BadPackage, BadRange, BadEvent, BadVersions}
use Rattle.serde_json.specs.Data.{Data, null, boolean, string, array, object, no_items, item, Members, no_members, member}

-- a list of one item
abbrev only : Data → Data
only d = array (item d no_items)

-- the members of an event with one version
abbrev event : List ℕ → List ℕ → Data
event name version = object (member name (string version) no_members)

abbrev openssl : Data
openssl = object (member (codes "ecosystem") (string (codes "Debian:12")) (member (codes "name") (string (codes "openssl")) no_members))

abbrev until_fixed : Data
until_fixed =
    object (member (codes "events") (array (item (event (codes "introduced") (codes "0")) (item (event (codes "fixed") (codes "3.0.11-1")) no_items)))
    (member (codes "type") (string (codes "ECOSYSTEM")) no_members))

-- a record with these entries, and with more members after it
abbrev record_with : Data → Members → Data
record_with entries others =
    object (member (codes "affected") entries
    (member (codes "id") (string (codes "X-1"))
    (member (codes "modified") (string (codes "2024-01-01T00:00:00Z")) others)))

-- a record with one entry, which has one range
well_formed :
    advisory_of (record_with (only (object (member (codes "package") openssl (member (codes "ranges") (only until_fixed) no_members)))) no_members)
    ≡ Ok (record {
      id = codes "X-1";
      modified = codes "2024-01-01T00:00:00Z";
      withdrawn = false;
      affected = record {
        «package» = Some (record { ecosystem = codes "Debian:12"; name = codes "openssl" });
        ranges = record { kind = Ecosystem; turns = Introduced (codes "0") ∷ Fixed (codes "3.0.11-1") ∷ [] } ∷ [];
        versions = [];
      } ∷ [];
    })
unfolding advisory_of entry_of package_of range_of kind_of turns_of
well_formed = refl

-- a record with a time of withdrawal, where null counts as none
withdrawn :
    (advisory_of (record_with null (member (codes "withdrawn") (string (codes "2024-02-01T00:00:00Z")) no_members))
    ≡ Ok (record { id = codes "X-1"; modified = codes "2024-01-01T00:00:00Z"; withdrawn = true; affected = [] }))
    × (advisory_of (record_with null (member (codes "withdrawn") null no_members))
    ≡ Ok (record { id = codes "X-1"; modified = codes "2024-01-01T00:00:00Z"; withdrawn = false; affected = [] }))
    × (advisory_of (record_with null (member (codes "withdrawn") (boolean true) no_members)) ≡ Err BadWithdrawn)
unfolding advisory_of
withdrawn = (refl, refl, refl)

-- the first fault of a record without members is that it has no id, which may not be empty
nameless :
    (advisory_of null ≡ Err NotObject)
    × (advisory_of (object no_members) ≡ Err NoId)
    × (advisory_of (object (member (codes "id") (string []) no_members)) ≡ Err NoId)
    × (advisory_of (object (member (codes "id") (string (codes "X-1")) no_members)) ≡ Err NoModified)
unfolding advisory_of
nameless = (refl, refl, refl, refl)

-- a fault of the first range stands before one of the second
by_range :
    (entry_of (object (member (codes "ranges") (array (item (object (member (codes "events") (only null) (member (codes "type") (string (codes "GIT")) no_members))) (item null no_items))) no_members)) ≡ Err BadEvent)
    × (entry_of (object (member (codes "ranges") (array (item null (item (object (member (codes "events") (only null) (member (codes "type") (string (codes "GIT")) no_members))) no_items))) no_members)) ≡ Err BadRange)
unfolding entry_of range_of kind_of turns_of
by_range = (refl, refl)

-- one event may give several turns, in a fixed order
several :
    turns_of (object (member (codes "fixed") (string (codes "2")) (member (codes "introduced") (string (codes "1")) (member (codes "limit") (string (codes "4")) (member (codes "last_affected") (string (codes "3")) no_members)))))
    ≡ Ok (Introduced (codes "1") ∷ Fixed (codes "2") ∷ LastAffected (codes "3") ∷ Limit (codes "4") ∷ [])
unfolding turns_of
several = refl

-- a type has its exact text
kinds :
    (kind_of (codes "ECOSYSTEM") ≡ Ecosystem) × (kind_of (codes "SEMVER") ≡ Semver)
    × (kind_of (codes "GIT") ≡ Other) × (kind_of (codes "semver") ≡ Other)
unfolding kind_of
kinds = (refl, refl, refl, refl)

-- versions are texts
listed :
    (entry_of (object (member (codes "versions") (only (string (codes "1.0"))) no_members))
    ≡ Ok (record { «package» = None; ranges = []; versions = codes "1.0" ∷ [] }))
    × (entry_of (object (member (codes "versions") (only null) no_members)) ≡ Err BadVersions)
    × (entry_of (object (member (codes "package") (object no_members) (member (codes "versions") (only null) no_members))) ≡ Err BadPackage)
unfolding entry_of package_of
listed = (refl, refl, refl)
