-- Findings as JSON (defined by this project): objects whose members stand in the order of their names.
use Rattle.std.specs.Prelude.{ℕ, List, [], ◌∷◌, map, codes, Option, Some, None}
use Rattle.std.specs.List.{join_with_byte}
use Rattle.serde_json.specs.Data.{Data, Items, no_items, item, no_members, member, null, string, array, object}
use Rattle.cv_base.specs.declared.finding.Finding.{Finding}
use Rattle.cv_base.specs.declared.package.PackageKind.{PackageKind}
use Rattle.cv_base.specs.declared.package.PackageKind.TheVariants.{Deb, Apk, Npm, Pypi}

-- a kind by its word
abbrev pub kind_text : PackageKind → List ℕ
kind_text Deb = codes "deb"
kind_text Apk = codes "apk"
kind_text Npm = codes "npm"
kind_text Pypi = codes "pypi"

-- a text, or null if there is none
abbrev pub fixed_data : Option (List ℕ) → Data
fixed_data None = null
fixed_data (Some text) = string text

-- a finding: what is affected, by which advisory of which feed, and the version that has the fix
abbrev pub finding_data : Finding → Data
finding_data f =
    object (member (codes "advisory") (string f.advisory)
    (member (codes "arch") (string f.«package».arch)
    (member (codes "ecosystem") (string f.«package».ecosystem)
    (member (codes "feed") (string f.feed)
    (member (codes "fixed") (fixed_data f.fixed)
    (member (codes "kind") (string (kind_text f.«package».kind))
    (member (codes "name") (string f.«package».name)
    (member (codes "path") (string (join_with_byte 47 f.«package».path))
    (member (codes "source") (string f.«package».source)
    (member (codes "source_version") (string f.«package».source_version)
    (member (codes "version") (string f.«package».version) no_members)))))))))))

-- values as the items of a list
abbrev pub items_of : List Data → Items
items_of [] = no_items
items_of (d ∷ ds) = item d (items_of ds)

-- a list of findings
abbrev pub findings_data : List Finding → Data
findings_data fs = array (items_of (map finding_data fs))
