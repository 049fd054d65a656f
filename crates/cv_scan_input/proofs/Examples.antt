-- The requests of inputs, computed.
use Rattle.std.specs.Prelude.{◌≡◌, ℕ, false, List, [], ◌∷◌, codes, map, None, Some, Ok, Err, refl}
use Rattle.cv_base.specs.declared.advisory.Advisory.{Advisory}
use Rattle.cv_base.specs.declared.manifest.Manifest.{Manifest}
use Rattle.cv_io.specs.Lines.{Reading, Stop, Finished, LongLine, LongInput}
use Rattle.cv_osv.specs.declared.record_error.RecordWhat.TheVariants.{NoId}
use Rattle.cv_request.specs.Line.{json_of}
use Rattle.cv_request.specs.Manifest.{manifest_of}
use Rattle.cv_request.specs.declared.error.RequestFault.TheVariants.{BadJson, BadRequest, BadAdvisory, DuplicateId}
use Rattle.cv_request.specs.declared.error.RequestWhat.TheVariants.{BadHash}
use Rattle.cv_scan_input.specs.Request.{InputRequest, NoLine, RefusedAt, TooLongLine, TooLongInput, Whole, RecordLine, image_request_of, list_request_of, request_after, scan_request_of, record_lines}
use Rattle.cv_scan_input.specs.declared.error.InputFault.TheVariants.{Request, ExtraLine}
use Rattle.cv_scan_input.specs.declared.later.Later.TheVariants.{Records, Nothing}
use Rattle.serde_json.specs.Data.{object, no_members}
use Rattle.cv_scan_input.specs.declared.input.TheConstants.{MAX_INPUT, MAX_LINE}

-- lines, and how the reading stops
abbrev read : List (List ℕ) → Stop → Reading
read lines stop = record { lines = lines; stop = stop }

-- without a line there is no manifest, unless the reading stopped before line 1
none :
    (scan_request_of (read [] Finished) ≡ NoLine)
    × (scan_request_of (read [] LongLine) ≡ TooLongLine)
    × (scan_request_of (read [] LongInput) ≡ TooLongInput)
none = (refl, refl, refl)

-- line 1 is the manifest, whatever follows it
first : (line : List ℕ) → json_of line ≡ None → scan_request_of (read (line ∷ line ∷ []) LongLine) ≡ RefusedAt 1 (Request BadJson)
first line h = rw h refl

first_object : (line : List ℕ) → json_of line ≡ Some (object no_members) → scan_request_of (read (line ∷ line ∷ []) LongLine) ≡ RefusedAt 1 (Request (BadRequest BadHash))
unfolding manifest_of
first_object line h = rw h refl

-- empty lines have numbers, and are not record lines
numbers : (byte : ℕ) → map (λ line. line.number) (record_lines 2 ([] ∷ (byte ∷ []) ∷ [] ∷ [] ∷ (byte ∷ byte ∷ []) ∷ [])) ≡ 3 ∷ 6 ∷ []
numbers byte = refl

-- an image without layers
abbrev image : Manifest
image = record { hash = codes "h"; layers = []; seals = [] }

-- a record with this id alone
abbrev bare : List ℕ → Advisory
bare id = record { id = id; modified = codes "m"; withdrawn = false; affected = [] }

-- record lines: a record, a malformed one, and a line that is not a JSON value
abbrev good : ℕ → List ℕ → RecordLine
good number id = record { number = number; found = Some (Ok (bare id)) }

abbrev malformed : ℕ → RecordLine
malformed number = record { number = number; found = Some (Err NoId) }

abbrev no_json : ℕ → RecordLine
no_json number = record { number = number; found = None }

-- the request of record lines after the manifest
abbrev after_image : List RecordLine → Stop → InputRequest Manifest
after_image lines stop = request_after Records (Ok image) lines stop

-- and of lines where there may be none
abbrev alone : List RecordLine → Stop → InputRequest Manifest
alone lines stop = request_after Nothing (Ok image) lines stop

-- the first refused record line is the answer, with its number and the index of its record
refused :
    (after_image (good 3 (codes "a") ∷ good 6 (codes "b") ∷ []) Finished ≡ Whole image (bare (codes "a") ∷ bare (codes "b") ∷ []))
    × (after_image (good 3 (codes "a") ∷ no_json 5 ∷ malformed 6 ∷ []) Finished ≡ RefusedAt 5 (Request BadJson))
    × (after_image (good 2 (codes "a") ∷ malformed 4 ∷ good 5 (codes "a") ∷ []) LongLine ≡ RefusedAt 4 (Request (BadAdvisory 1 NoId)))
    × (after_image (good 2 (codes "b") ∷ good 3 (codes "a") ∷ good 5 (codes "a") ∷ no_json 6 ∷ []) LongInput ≡ RefusedAt 5 (Request (DuplicateId 1 2)))
refused = (refl, refl, refl, refl)

-- if no line is refused, how the reading stopped is the answer
stops :
    (after_image (good 2 (codes "a") ∷ []) LongLine ≡ TooLongLine)
    × (after_image (good 2 (codes "a") ∷ []) LongInput ≡ TooLongInput)
    × (after_image [] Finished ≡ Whole image [])
stops = (refl, refl, refl)

-- where no record may stand, the first line that is not empty is refused, whatever it is
extra :
    (alone [] Finished ≡ Whole image [])
    × (alone (good 4 (codes "a") ∷ no_json 5 ∷ []) LongLine ≡ RefusedAt 4 ExtraLine)
    × (alone (no_json 2 ∷ []) Finished ≡ RefusedAt 2 ExtraLine)
    × (alone [] LongLine ≡ TooLongLine)
extra = (refl, refl, refl, refl)

-- an input without a line, of each kind
no_lines : (image_request_of (read [] Finished) ≡ NoLine) × (list_request_of (read [] Finished) ≡ NoLine)
no_lines = (refl, refl)

-- the limits of a line and of the input
limits : (MAX_LINE ≡ 67108864) × (MAX_INPUT ≡ 68719476736)
limits = (refl, refl)
