-- The line of a list of components that was scanned (defined by this project). A digest stands in full.
use Rattle.std.specs.Prelude.{ℕ, List, codes, Option, Some, None}
use Rattle.serde_json.specs.Data.{Data, no_members, member, null, number, object, string, unsigned}
use Rattle.cv_base.specs.Digest.{digest_text}
use Rattle.cv_base.specs.declared.finding.Finding.{Finding}
use Rattle.cv_scan_output.specs.Finding.{findings_data}
use Rattle.cv_scan_output.specs.Line.{line_text}

-- the image of a list, or null if it names none
abbrev pub image_data : Option (List ℕ) → Data
image_data None = null
image_data (Some image) = string (digest_text image)

-- the JSON value: the findings, the image, and how many components are not packages that can be matched
abbrev pub list_good_data : Option (List ℕ) → List Finding → ℕ → Data
list_good_data image findings skipped =
    object (member (codes "findings") (findings_data findings)
    (member (codes "image") (image_data image)
    (member (codes "reply") (string (codes "good"))
    (member (codes "skipped") (number (unsigned skipped)) no_members))))

-- the line
unfoldable pub list_good_text : Option (List ℕ) → List Finding → ℕ → List ℕ
list_good_text image findings skipped = line_text (list_good_data image findings skipped)
