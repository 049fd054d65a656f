-- Records that are appended one by one are the whole list, or its first fault.
use Rattle.std.specs.Prelude.{◌≡◌, ℕ, ◌+◌, ◌<◌, ◌≤◌, cond, List, [], ◌∷◌, ◌++◌, length, map, Option, Some, None, option_map, Ok, Err, refl}
use Rattle.std.specs.List.{position_from}
use Rattle.std.specs.Option.{option_to_list}
use Rattle.std.proofs.Common.{◌∙◌, sym, ap, append_assoc, le-ltb, lt-ltb}
use Rattle.std.proofs.lemmas.List.{append-nil, length-map, map-append}
use Rattle.cv_base.specs.Results.{◌>>=◌, or_first_fault}
use Rattle.cv_base.specs.Texts.{same}
use Rattle.cv_base.specs.declared.advisory.Advisory.{Advisory}
use Rattle.cv_base.specs.declared.limits.TheConstants.{MAX_ADVISORIES}
use Rattle.cv_osv.specs.Json.{items_list}
use Rattle.cv_osv.specs.Record.{advisory_of}
use Rattle.cv_osv.specs.Records.{BadAdvisory, DuplicateId, ListFault, NotList, RecordRead, TooMany, fault_after, faults_after, has_id, listed, appended, reads_of, records_in, records_of}
use Rattle.cv_osv.specs.code.Appended.{index_of, pushed, pushed_reading, all_appended}
use Rattle.serde_json.specs.Data.{Data}
use Rattle.serde_json.specs.Find.{as_array}
use Rattle.serde_json.specs.View.{items_of, items_view, view}
use Rattle.serde_json.specs.declared.value.Value.{Value}

-- an id has its index among the records as among their readings
index_is : (id : List ℕ) (i : ℕ) (records : List Advisory) → position_from (has_id id) i (reads_of records) ≡ position_from (λ there. same id there.id) i records
index_is id i [] = refl
index_is id i (here ∷ more) = ap (cond (same id here.id) (Some i)) (index_is id (i + 1) more)

count_is : (records : List Advisory) → length (reads_of records) ≡ length records
count_is records = length-map records (λ here. Ok here)

-- a record after others, by the index of its id
pushed_by : (records : List Advisory) (here : Advisory) (found : Option ℕ)
    → pushed records here found ≡ or_first_fault (option_to_list (option_map (λ first. DuplicateId first (length records)) found)) (records ++ here ∷ [])
pushed_by records here None = refl
pushed_by records here (Some first) = refl

-- the two ways to append a reading are one
pub pushed_reading_is : (records : List Advisory) (reading : RecordRead) → pushed_reading records reading ≡ appended records reading
pushed_reading_is records (Err what) = ap (λ n. Err (BadAdvisory n what)) (sym (count_is records))
pushed_reading_is records (Ok here) =
    pushed_by records here (index_of here.id records)
    ∙ ap (λ n. or_first_fault (option_to_list (option_map (λ first. DuplicateId first n) (index_of here.id records))) (records ++ here ∷ [])) (sym (count_is records))
    ∙ ap (λ found. or_first_fault (option_to_list (option_map (λ first. DuplicateId first (length (reads_of records))) found)) (records ++ here ∷ [])) (sym (index_is here.id 0 records))

-- a record comes after the others, or there is a fault at its index
appended_at : (records : List Advisory) (here : Advisory) (rest : List RecordRead) (ds : List Data) (fault : Option ListFault)
    → ((more : List Advisory) → all_appended more ds ≡ or_first_fault (faults_after (reads_of more) rest) (more ++ records_in rest))
    → (or_first_fault (option_to_list fault) (records ++ here ∷ []) >>= λ more. all_appended more ds)
    ≡ or_first_fault (option_to_list fault ++ faults_after (reads_of records ++ Ok here ∷ []) rest) (records ++ here ∷ records_in rest)
appended_at records here rest ds (Some bad) later = refl
appended_at records here rest ds None later =
    later (records ++ here ∷ [])
    ∙ ap (λ earlier. or_first_fault (faults_after earlier rest) ((records ++ here ∷ []) ++ records_in rest)) (map-append (λ x. Ok x) records (here ∷ []))
    ∙ ap (λ all. or_first_fault (faults_after (reads_of records ++ Ok here ∷ []) rest) all) (append_assoc records (here ∷ []) (records_in rest))

-- one more reading
appended_by : (records : List Advisory) (reading : RecordRead) (rest : List RecordRead) (ds : List Data)
    → ((more : List Advisory) → all_appended more ds ≡ or_first_fault (faults_after (reads_of more) rest) (more ++ records_in rest))
    → (appended records reading >>= λ more. all_appended more ds)
    ≡ or_first_fault (faults_after (reads_of records) (reading ∷ rest)) (records ++ records_in (reading ∷ rest))
appended_by records (Err what) rest ds later = refl
appended_by records (Ok here) rest ds later = appended_at records here rest ds (fault_after (reads_of records) (Ok here)) later

-- the remaining values after the records
all_appended_is : (ds : List Data) (records : List Advisory) → all_appended records ds ≡ or_first_fault (faults_after (reads_of records) (map advisory_of ds)) (records ++ records_in (map advisory_of ds))
all_appended_is [] records = ap Ok (sym (append-nil records))
all_appended_is (d ∷ ds) records = appended_by records (advisory_of d) (map advisory_of ds) ds (all_appended_is ds)

-- all the values
pub all_appended_listed : (ds : List Data) → all_appended [] ds ≡ listed ds
all_appended_listed ds = all_appended_is ds []

-- the items of a list that was made of values
pub items_list-items_of : (ds : List Data) → items_list (items_of ds) ≡ ds
items_list-items_of [] = refl
items_list-items_of (d ∷ ds) = ap (λ more. d ∷ more) (items_list-items_of ds)

count_of : (vs : List Value) → length (items_list (items_view vs)) ≡ length vs
count_of vs = ap length (items_list-items_of (map view vs)) ∙ length-map vs view

-- a value that is not a list
pub records_none : (d : Data) → as_array d ≡ None → records_of d ≡ Err NotList
unfolding records_of
records_none d e = rw e refl

-- a list of values that is too long
pub records_over : (d : Data) (vs : List Value) → as_array d ≡ Some (items_view vs) → MAX_ADVISORIES < length vs → records_of d ≡ Err TooMany
unfolding records_of
records_over d vs e long = rw (e, count_of vs, lt-ltb MAX_ADVISORIES (length vs) long) refl

-- a list of values that is not
pub records_within : (d : Data) (vs : List Value) → as_array d ≡ Some (items_view vs) → length vs ≤ MAX_ADVISORIES → records_of d ≡ all_appended [] (map view vs)
unfolding records_of
records_within d vs e short = rw (e, count_of vs, le-ltb MAX_ADVISORIES (length vs) short, items_list-items_of (map view vs)) (sym (all_appended_listed (map view vs)))
