-- The lines of refused input lines (defined by this project). Lines count from 1, layers and records from 0.
-- A printed name is the words of the variant's name in lower case with `_` between them.
use Rattle.std.specs.Prelude.{ℕ, List, codes}
use Rattle.serde_json.specs.Data.{Data, no_members, member, number, object, string, unsigned}
use Rattle.cv_osv.specs.declared.record_error.RecordWhat.{RecordWhat}
use Rattle.cv_osv.specs.declared.record_error.RecordWhat.TheVariants as record_what
use Rattle.cv_request.specs.declared.error.RequestError.{RequestError}
use Rattle.cv_request.specs.declared.error.RequestError.TheVariants.{BadJson, BadRequest, BadAdvisory, DuplicateId, TooManyAdvisories, NoMemory}
use Rattle.cv_request.specs.declared.error.RequestWhat.{RequestWhat}
use Rattle.cv_request.specs.declared.error.RequestWhat.TheVariants.{NotObject, BadLane, BadDo, BadImage, BadManifest, BadHash, BadLayers, NoLayers, TooManyLayers, BadLayer, BadSeal, BadFeed, BadBase, BadRemove, BadAdvisories, BadNumber, BadSize, BadPage}
use Rattle.cv_scan_output.specs.Line.{line_text}

-- the JSON value of a refused line
abbrev pub line_data : ℕ → List ℕ → Data
line_data line word = object (member (codes "line") (number (unsigned line)) (member (codes "refused") (string word) no_members))

-- the line of a refused line, with its number from 1 and a word for the cause
unfoldable pub refused_text : ℕ → List ℕ → List ℕ
refused_text line word = line_text (line_data line word)

-- a line that is refused for an item of a list, with the index of the item and what is wrong with it
abbrev pub item_data : ℕ → List ℕ → ℕ → List ℕ → Data
item_data line word index what =
    object (member (codes "index") (number (unsigned index))
    (member (codes "line") (number (unsigned line))
    (member (codes "refused") (string word)
    (member (codes "what") (string what) no_members))))

-- a manifest that is bad at a layer
abbrev pub bad_layer_data : ℕ → ℕ → List ℕ → Data
bad_layer_data line index what = item_data line (codes "bad_request") index what

-- a request that is bad in another way
abbrev pub named_data : ℕ → List ℕ → Data
named_data line what =
    object (member (codes "line") (number (unsigned line))
    (member (codes "refused") (string (codes "bad_request"))
    (member (codes "what") (string what) no_members)))

-- a bad request
abbrev pub bad_request_data : ℕ → RequestWhat → Data
bad_request_data line NotObject = named_data line (codes "not_object")
bad_request_data line BadLane = named_data line (codes "bad_lane")
bad_request_data line BadDo = named_data line (codes "bad_do")
bad_request_data line BadImage = named_data line (codes "bad_image")
bad_request_data line BadManifest = named_data line (codes "bad_manifest")
bad_request_data line BadHash = named_data line (codes "bad_hash")
bad_request_data line BadLayers = named_data line (codes "bad_layers")
bad_request_data line NoLayers = named_data line (codes "no_layers")
bad_request_data line TooManyLayers = named_data line (codes "too_many_layers")
bad_request_data line (BadLayer index) = bad_layer_data line index (codes "bad_layer")
bad_request_data line (BadSeal index) = bad_layer_data line index (codes "bad_seal")
bad_request_data line BadFeed = named_data line (codes "bad_feed")
bad_request_data line BadBase = named_data line (codes "bad_base")
bad_request_data line BadRemove = named_data line (codes "bad_remove")
bad_request_data line BadAdvisories = named_data line (codes "bad_advisories")
bad_request_data line BadNumber = named_data line (codes "bad_number")
bad_request_data line BadSize = named_data line (codes "bad_size")
bad_request_data line BadPage = named_data line (codes "bad_page")

-- the printed name of what is wrong with a record of advisories
abbrev pub record_name : RecordWhat → List ℕ
record_name record_what.NotObject = codes "not_object"
record_name record_what.NoId = codes "no_id"
record_name record_what.NoModified = codes "no_modified"
record_name record_what.BadWithdrawn = codes "bad_withdrawn"
record_name record_what.BadAffected = codes "bad_affected"
record_name record_what.BadEntry = codes "bad_entry"
record_name record_what.BadPackage = codes "bad_package"
record_name record_what.BadRange = codes "bad_range"
record_name record_what.BadEvent = codes "bad_event"
record_name record_what.BadVersions = codes "bad_versions"

-- a bad record
abbrev pub bad_advisory_data : ℕ → ℕ → RecordWhat → Data
bad_advisory_data line index what = item_data line (codes "bad_advisory") index (record_name what)

-- two records with one id
abbrev pub duplicate_data : ℕ → ℕ → ℕ → Data
duplicate_data line first second =
    object (member (codes "first") (number (unsigned first))
    (member (codes "line") (number (unsigned line))
    (member (codes "refused") (string (codes "duplicate_id"))
    (member (codes "second") (number (unsigned second)) no_members))))

-- a line by why it is refused
abbrev pub refusal_data : ℕ → RequestError → Data
refusal_data line BadJson = line_data line (codes "bad_json")
refusal_data line (BadRequest what) = bad_request_data line what
refusal_data line (BadAdvisory index what) = bad_advisory_data line index what
refusal_data line (DuplicateId first second) = duplicate_data line first second
refusal_data line TooManyAdvisories = line_data line (codes "too_many_advisories")
refusal_data line NoMemory = line_data line (codes "no_memory")

-- an input line that is refused, with its number and the reason
unfoldable pub refusal_text : ℕ → RequestError → List ℕ
refusal_text line error = line_text (refusal_data line error)

-- an input without a line
abbrev pub no_manifest_text : List ℕ
no_manifest_text = refused_text 1 (codes "no_manifest")
