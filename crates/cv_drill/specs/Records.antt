-- The records of the drill's feed, in the OSV schema (defined by this project), and its two updates. A record with an even
-- number is about a package of Debian, and one with an odd number about a module of npm.
use Rattle.std.specs.Prelude.{ℕ, ◌+◌, ◌/◌, ◌%◌, ◌==◌, if◌then◌else◌, Bool, true, not, List, ◌++◌, codes, decimal, filter, map}
use Rattle.serde_json.specs.Data.{Data, array, no_items, item, no_members, member, number, unsigned, object, string}
use Rattle.serde_json.specs.View.{items_of}
use Rattle.cv_drill.specs.Lines.{numbers}
use Rattle.cv_drill.specs.declared.record.Update.{Update}
use Rattle.cv_drill.specs.declared.record.Update.TheVariants.{First, Second}

-- a letter and the last two digits of a number
abbrev pub name : List ℕ → ℕ → List ℕ
name letter j = letter ++ (decimal (j / 10 % 10) ++ decimal (j % 10))

-- `GEN-` and a number in four digits
abbrev pub record_id : ℕ → List ℕ
record_id j = codes "GEN-" ++ (decimal (j / 1000) ++ (decimal (j / 100 % 10) ++ (decimal (j / 10 % 10) ++ decimal (j % 10))))

-- the first update has all records, and the second one leaves out every third
abbrev pub is_kept : Update → ℕ → Bool
is_kept First j = true
is_kept Second j = not (j % 3 == 0)

-- the minor version in a record: 40 records have one. In the second update it is greater by 1 for one record in three
abbrev pub minor : Update → ℕ → ℕ
minor First j = j / 40
minor Second j = if j % 3 == 1 then j / 40 + 1 else j / 40

-- the event of the first version
unfoldable pub introduced_data : Data
introduced_data = object (member (codes "introduced") (string (codes "0")) no_members)

-- the versions of a type, from the first one on to an event
unfoldable pub range_data : List ℕ → Data → Data
range_data kind last =
    object (member (codes "events") (array (item introduced_data (item last no_items))) (member (codes "type") (string kind) no_members))

-- a package by its ecosystem and its name
unfoldable pub package_data : List ℕ → List ℕ → Data
package_data ecosystem called = object (member (codes "ecosystem") (string ecosystem) (member (codes "name") (string called) no_members))

-- a package of an ecosystem, with a range
unfoldable pub entry_data : List ℕ → List ℕ → Data → Data
entry_data ecosystem called range =
    object (member (codes "package") (package_data ecosystem called) (member (codes "ranges") (array (item range no_items)) no_members))

-- the version that has the fix
unfoldable pub fixed_data : ℕ → Data
fixed_data m = object (member (codes "fixed") (string (codes "1." ++ (decimal m ++ codes "-1"))) no_members)

-- the last version that is affected
unfoldable pub last_affected_data : ℕ → Data
last_affected_data m = object (member (codes "last_affected") (string (codes "1." ++ (decimal m ++ codes ".0"))) no_members)

-- a package of Debian
unfoldable pub debian_data : ℕ → ℕ → Data
debian_data m j = entry_data (codes "Debian:12") (name (codes "p") j) (range_data (codes "ECOSYSTEM") (fixed_data m))

-- a module of npm
unfoldable pub npm_data : ℕ → ℕ → Data
npm_data m j = entry_data (codes "npm") (name (codes "n") j) (range_data (codes "SEMVER") (last_affected_data m))

-- what a record is about
abbrev pub affected_data : ℕ → ℕ → Data
affected_data m j = if j % 2 == 0 then debian_data m j else npm_data m j

-- a record with its minor version
unfoldable pub record_data : Update → ℕ → Data
record_data update j =
    object (member (codes "affected") (array (item (affected_data (minor update j) j) no_items))
    (member (codes "id") (string (record_id j))
    (member (codes "modified") (string (codes "2024-01-01T00:00:00Z")) no_members)))

-- the records of an update, of which this is the number
abbrev pub records : Update → ℕ → List Data
records update count = map (record_data update) (filter (is_kept update) (numbers count))

-- the request that updates the feed
abbrev pub update_data : Update → ℕ → Data
update_data update count =
    object (member (codes "advisories") (array (items_of (records update count)))
    (member (codes "do") (string (codes "update"))
    (member (codes "feed") (string (codes "gen"))
    (member (codes "lane") (number (unsigned 0)) no_members))))
