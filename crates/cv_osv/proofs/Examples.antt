-- Lists of records read by the definition, computed.
use Rattle.std.specs.Prelude.{◌≡◌, ℕ, false, List, [], ◌∷◌, codes, Ok, Err, refl}
use Rattle.cv_base.specs.declared.advisory.Advisory.{Advisory}
use Rattle.cv_osv.specs.Record.{advisory_of}
use Rattle.cv_osv.specs.declared.record_error.RecordWhat.TheVariants.{NotObject}
use Rattle.cv_osv.specs.Records.{BadAdvisory, DuplicateId, NotList, records_of}
use Rattle.serde_json.specs.Data.{Data, null, string, array, object, no_items, item, no_members, member}

-- a record with this id alone
abbrev named : List ℕ → Data
named id = object (member (codes "id") (string id) (member (codes "modified") (string (codes "m")) no_members))

-- a list of three values
abbrev three : Data → Data → Data → Data
three a b c = array (item a (item b (item c no_items)))

-- the advisory of such a record
abbrev bare : List ℕ → Advisory
bare id = record { id = id; modified = codes "m"; withdrawn = false; affected = [] }

-- the fault at the first index is the answer
lists :
    (records_of (array no_items) ≡ Ok [])
    × (records_of null ≡ Err NotList)
    × (records_of (three (named (codes "b")) (named (codes "a")) (named (codes "c"))) ≡ Ok (bare (codes "b") ∷ bare (codes "a") ∷ bare (codes "c") ∷ []))
    × (records_of (three (named (codes "a")) (named (codes "b")) (named (codes "a"))) ≡ Err (DuplicateId 0 2))
    × (records_of (three (named (codes "a")) (named (codes "a")) null) ≡ Err (DuplicateId 0 1))
    × (records_of (three (named (codes "a")) null (named (codes "a"))) ≡ Err (BadAdvisory 1 NotObject))
unfolding records_of advisory_of
lists = (refl, refl, refl, refl, refl, refl)
