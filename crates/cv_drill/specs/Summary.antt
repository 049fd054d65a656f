-- The summary of a drill (defined by this project): how many images were registered and layers entered, at which generation the
-- feed is, how many notifications and rows there are, how many findings, and a SHA-256 (FIPS 180-4) of the findings that the last
-- report on each image has.
use Rattle.std.specs.Prelude.{ℕ, max, Bool, ◌&&◌, not, if◌then◌else◌, List, [], ◌∷◌, ◌++◌, length, map, filter, codes, decimal, Option, Some, None, option_and_then, is_some, unwrap_or, sum}
use Rattle.std.specs.List.{filter_map, last_or}
use Rattle.std.specs.Option.{option_map}
use Rattle.hex.specs.Hex.{encode_lower}
use Rattle.serde_json.specs.Data.{Data}
use Rattle.serde_json.specs.Find.{as_array, get}
use Rattle.sha2.specs.Sha256.{sha256}
use Rattle.cv_base.specs.Digest.{digest_text}
use Rattle.cv_base.specs.Texts.{same}
use Rattle.cv_drill.specs.Images.{image}
use Rattle.cv_drill.specs.Lines.{json_text, lines_text, numbers}
use Rattle.cv_drill.specs.declared.totals.Totals.{Totals}
use Rattle.cv_drill.specs.Transcript.{has_number, list, number_at, objects, says, text_at}

-- how many objects have this reply
abbrev pub replies : List ℕ → List Data → ℕ
replies word values = length (filter (says (codes "reply") word) values)

-- the greatest of some numbers; 0 if there is none
abbrev pub greatest : List ℕ → ℕ
greatest [] = 0
greatest (n ∷ ns) = max n (greatest ns)

-- the generation of an update; no other object has one here
abbrev pub update_generation : Data → Option ℕ
update_generation value = if says (codes "event") (codes "update") value then Some (number_at (codes "generation") value) else None

-- the greatest generation of an update
abbrev pub generation : List Data → ℕ
generation values = greatest (filter_map update_generation values)

-- the list of notifications of an object, if it has one
abbrev pub notifications : Data → Option (List Data)
notifications value = option_and_then list (get (codes "notifications") value)

-- the last list of notifications, if there is one
abbrev pub last_notifications : List Data → Option (List Data)
last_notifications values = last_or None (filter_map notifications values)

-- the notifications of the last list; none if there is no list
abbrev pub standing : List Data → List Data
standing values = unwrap_or (last_notifications values) []

-- the sum of the rows of notifications
abbrev pub rows : List Data → ℕ
rows notices = sum (map (number_at (codes "rows")) notices)

-- an object is a good report
abbrev pub is_good_report : Data → Bool
is_good_report value = says (codes "read") (codes "report") value && says (codes "reply") (codes "good") value

-- the value, if it is a list in which no number stands at any depth
abbrev pub numberless_list : Data → Option Data
numberless_list value = if is_some (as_array value) && not (has_number value) then Some value else None

-- the findings of a good report
abbrev pub good_findings : Data → Option Data
good_findings value = if is_good_report value then option_and_then numberless_list (get (codes "findings") value) else None

-- how many values a list has
abbrev pub count : Data → ℕ
count value = length (unwrap_or (list value) [])

-- how many findings all good reports have
abbrev pub findings : List Data → ℕ
findings values = sum (map count (filter_map good_findings values))

-- the image of a good report, and its findings as JSON
abbrev pub image_report : Data → Option (List ℕ × List ℕ)
image_report value =
    option_and_then (λ hash. option_map (λ found. (hash, json_text found)) (good_findings value)) (text_at (codes "image") value)

-- the findings of a report, if it is on this image
abbrev pub under : List ℕ → Option (List ℕ × List ℕ) → Option (List ℕ)
under hash report = option_and_then (λ r. if same r.0 hash then Some r.1 else None) report

-- the findings of a good report on this image
abbrev pub report_on : List ℕ → Data → Option (List ℕ)
report_on hash value = under hash (image_report value)

-- the findings of the last good report on an image
abbrev pub last_report : List Data → List ℕ → Option (List ℕ)
last_report values hash = last_or None (filter_map (report_on hash) values)

-- the findings of the last good report on each image, a line each
abbrev pub last_reports : ℕ → List Data → List ℕ
last_reports images values = lines_text (filter_map (λ i. last_report values (digest_text (image i))) (numbers images))

-- a SHA-256 in hexadecimal
unfoldable pub sum_text : List ℕ → List ℕ
sum_text text = encode_lower (sha256 text)

-- the numbers of some objects
abbrev pub totals_of : List Data → Totals
totals_of values = record {
  images = replies (codes "registered") values;
  layers = replies (codes "entered") values;
  generation = generation values;
  notifications = length (standing values);
  rows = rows (standing values);
  findings = findings values;
}

-- what the line of a summary begins with
unfoldable pub counts_text : Totals → List ℕ
counts_text t =
    codes "images " ++ (decimal t.images ++ (codes ", layers " ++ (decimal t.layers ++ (codes ", generation " ++ decimal t.generation))))

-- what comes after that
unfoldable pub sums_text : Totals → List ℕ
sums_text t =
    codes "notifications " ++ (decimal t.notifications ++ (codes ", rows " ++ (decimal t.rows ++ (codes ", findings " ++ decimal t.findings))))

-- the line of a summary
unfoldable pub line_of : Totals → List ℕ → List ℕ
line_of t hash = counts_text t ++ (codes ", " ++ (sums_text t ++ (codes ", sha256 " ++ hash)))

-- the summary of objects, with this number of images
unfoldable pub summary_of : ℕ → List Data → List ℕ
summary_of images values = line_of (totals_of values) (sum_text (last_reports images values))

-- how many images the script of a seed has: as many for each seed, and the same ones
abbrev pub image_count : ℕ → ℕ
image_count seed = 64

-- the summary of a transcript of the script of a seed
abbrev pub summary : ℕ → List ℕ → List ℕ
summary seed transcript = summary_of (image_count seed) (objects transcript)
