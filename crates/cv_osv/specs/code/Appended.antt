-- Records that are appended one by one, as the code does it: the index of each id is looked up. It is shown in `proofs/`
-- that this is `appended`, and the whole `listed`, of `Records.antt`.
use Rattle.std.specs.Prelude.{◌≡◌, ℕ, cond, List, [], ◌∷◌, ◌++◌, length, Option, Some, None, Result, Ok, Err}
use Rattle.std.specs.BTreeMap.{BTreeMap, get}
use Rattle.std.specs.Cmp.Lexicographic.{slice_cmp}
use Rattle.std.specs.List.{position_from}
use Rattle.std.specs.Ordering.{is_eq, nat_cmp}
use Rattle.cv_base.specs.Results.{◌>>=◌}
use Rattle.cv_base.specs.Texts.{same}
use Rattle.cv_base.specs.declared.advisory.Advisory.{Advisory}
use Rattle.cv_osv.specs.Record.{advisory_of}
use Rattle.cv_osv.specs.Records.{ListFault, BadAdvisory, DuplicateId, RecordRead, appended}
use Rattle.serde_json.specs.Data.{Data}

-- the index of the first record with this id
abbrev pub index_of : List ℕ → List Advisory → Option ℕ
index_of id records = position_from (λ there. same id there.id) 0 records

-- a reading, whose fault has its index
abbrev pub at_index : ℕ → RecordRead → Result Advisory ListFault
at_index index (Ok here) = Ok here
at_index index (Err what) = Err (BadAdvisory index what)

-- a record after the others, unless one of them has its id
abbrev pub pushed : List Advisory → Advisory → Option ℕ → Result (List Advisory) ListFault
pushed records here None = Ok (records ++ here ∷ [])
pushed records here (Some first) = Err (DuplicateId first (length records))

-- a reading after the records
abbrev pub pushed_reading : List Advisory → RecordRead → Result (List Advisory) ListFault
pushed_reading records reading = at_index (length records) reading >>= λ here. pushed records here (index_of here.id records)

-- the remaining values after the records
abbrev pub all_appended : List Advisory → List Data → Result (List Advisory) ListFault
all_appended records [] = Ok records
all_appended records (d ∷ ds) = appended records (advisory_of d) >>= λ more. all_appended more ds

-- the map has the index of each id
abbrev pub Indexes : BTreeMap (List ℕ) ℕ → List Advisory → Type 0
Indexes places records = (id : List ℕ) → get (slice_cmp nat_cmp) places id ≡ index_of id records

-- the second map is the first one, but for the index of this id
abbrev pub IsIndexed : BTreeMap (List ℕ) ℕ → BTreeMap (List ℕ) ℕ → List ℕ → ℕ → Type 0
IsIndexed old new id index =
    (other : List ℕ) → get (slice_cmp nat_cmp) new other ≡ cond (is_eq (slice_cmp nat_cmp id other)) (Some index) (get (slice_cmp nat_cmp) old other)
