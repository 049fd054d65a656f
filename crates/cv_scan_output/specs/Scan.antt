-- The lines of a scan (defined by this project). A digest stands in full.
use Rattle.std.specs.Prelude.{ℕ, List, codes}
use Rattle.serde_json.specs.Data.{Data, no_members, member, object, string}
use Rattle.cv_base.specs.Digest.{digest_text}
use Rattle.cv_base.specs.declared.finding.Finding.{Finding}
use Rattle.cv_scan_output.specs.Finding.{findings_data}
use Rattle.cv_scan_output.specs.Line.{line_text}

-- the JSON value of a good image
abbrev pub good_data : List ℕ → List Finding → Data
good_data image findings =
    object (member (codes "findings") (findings_data findings)
    (member (codes "image") (string (digest_text image))
    (member (codes "reply") (string (codes "good")) no_members)))

-- an image that was scanned, with its findings
unfoldable pub good_text : List ℕ → List Finding → List ℕ
good_text image findings = line_text (good_data image findings)

-- the JSON value of a failed layer
abbrev pub layer_data : List ℕ → Data
layer_data layer = object (member (codes "layer") (string (digest_text layer)) (member (codes "refused") (string (codes "desk_fault")) no_members))

-- a layer that could not be read
unfoldable pub desk_fault_text : List ℕ → List ℕ
desk_fault_text layer = line_text (layer_data layer)
