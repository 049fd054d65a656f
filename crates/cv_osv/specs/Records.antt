-- What a JSON value is as a list of records (defined by this project): `records_of` takes the value as `Data` of
-- serde_json, and gives the advisories in their order, or the fault at the first index that has one: the record's own
-- fault, or an id that an earlier record has. Indices count from 0.
use Rattle.std.specs.Prelude.{ℕ, Bool, false, nat_lt, if◌then◌else◌, List, [], ◌∷◌, ◌++◌, length, map, Option, Some, option_map, Result, Ok, Err}
use Rattle.std.specs.List.{IsDistinct, flat_map, position_from}
use Rattle.std.specs.Option.{ok_or, option_to_list}
use Rattle.std.specs.Result.{result_ok}
use Rattle.cv_base.specs.Results.{◌>>=◌, or_first_fault}
use Rattle.cv_base.specs.Texts.{same}
use Rattle.cv_base.specs.declared.advisory.Advisory.{Advisory}
use Rattle.cv_base.specs.declared.limits.TheConstants.{MAX_ADVISORIES}
use Rattle.cv_osv.specs.Json.{items_list}
use Rattle.cv_osv.specs.Record.{advisory_of}
use Rattle.cv_osv.specs.declared.record_error.RecordWhat.{RecordWhat}
use Rattle.serde_json.specs.Data.{Data}
use Rattle.serde_json.specs.Find.{as_array}

-- why a list of records is refused
pub data ListFault : Type 0 where
  -- the value is not a list
  NotList : ListFault
  -- the list has more records than a list may have
  TooMany : ListFault
  -- the record of this index is malformed
  BadAdvisory : ℕ → RecordWhat → ListFault
  -- the record of the second index has the id of the first
  DuplicateId : ℕ → ℕ → ListFault

-- a value read as a record
abbrev pub RecordRead : Type 0
RecordRead = Result Advisory RecordWhat

-- the record has this id
abbrev pub has_id : List ℕ → RecordRead → Bool
has_id id (Ok record_there) = same id record_there.id
has_id id (Err what) = false

-- the fault at the index after these readings
abbrev pub fault_after : List RecordRead → RecordRead → Option ListFault
fault_after earlier (Err what) = Some (BadAdvisory (length earlier) what)
fault_after earlier (Ok here) = option_map (λ first. DuplicateId first (length earlier)) (position_from (has_id here.id) 0 earlier)

-- the faults at the indices after these readings, in their order
abbrev pub faults_after : List RecordRead → List RecordRead → List ListFault
faults_after earlier [] = []
faults_after earlier (r ∷ rs) = option_to_list (fault_after earlier r) ++ faults_after (earlier ++ r ∷ []) rs

-- the records that were read
abbrev pub records_in : List RecordRead → List Advisory
records_in rs = flat_map (λ r. option_to_list (result_ok r)) rs

-- the records of a list, if no index has a fault
abbrev pub listed : List Data → Result (List Advisory) ListFault
listed ds = or_first_fault (faults_after [] (map advisory_of ds)) (records_in (map advisory_of ds))

-- a list of at most 200,000 records
unfoldable pub records_of : Data → Result (List Advisory) ListFault
records_of d = do
  items ← ok_or (as_array d) NotList
  if nat_lt MAX_ADVISORIES (length (items_list items)) then Err TooMany else listed (items_list items)

-- no two records have one id
abbrev pub HasDistinctIds : List Advisory → Type 0
HasDistinctIds records = IsDistinct same (map (λ here. here.id) records)

-- ---- records that are read one by one

-- records, as they were read
abbrev pub reads_of : List Advisory → List RecordRead
reads_of records = map (λ here. Ok here) records

-- one more reading after the records: the fault at its index, or else the records with its own appended
abbrev pub appended : List Advisory → RecordRead → Result (List Advisory) ListFault
appended records reading = or_first_fault (option_to_list (fault_after (reads_of records) reading)) (records ++ option_to_list (result_ok reading))
