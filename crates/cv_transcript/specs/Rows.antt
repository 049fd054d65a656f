-- The rows of a notification as JSON (defined by this project).
use Rattle.std.specs.Prelude.{ℕ, List, map, codes}
use Rattle.serde_json.specs.Data.{Data, no_members, member, string, array, object}
use Rattle.cv_base.specs.Digest.{digest_text}
use Rattle.cv_base.specs.declared.finding.Reason.{Reason}
use Rattle.cv_base.specs.declared.finding.Reason.TheVariants.{Added, Removed, Changed}
use Rattle.cv_base.specs.declared.finding.Row.{Row}
use Rattle.cv_scan_output.specs.Finding.{finding_data, items_of}

-- a reason by its word
abbrev pub reason_name : Reason → List ℕ
reason_name Added = codes "added"
reason_name Removed = codes "removed"
reason_name Changed = codes "changed"

-- a row: what changed for an image
abbrev pub row_data : Row → Data
row_data row =
    object (member (codes "finding") (finding_data row.finding)
    (member (codes "image") (string (digest_text row.image))
    (member (codes "reason") (string (reason_name row.reason)) no_members)))

-- a list of rows
abbrev pub rows_data : List Row → Data
rows_data rows = array (items_of (map row_data rows))
