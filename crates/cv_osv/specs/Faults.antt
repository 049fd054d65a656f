-- What is wrong with a record, part by part (defined by this project). A part has its faults whatever stands before it,
-- and the first fault of all is the one that is answered: so the first entry that is refused decides alone, and the
-- first fault within it.
use Rattle.std.specs.Prelude.{List, [], ◌∷◌, ◌++◌, codes, Result, Ok, Err}
use Rattle.std.specs.List.{flat_map}
use Rattle.cv_base.specs.Results.{◌>>=◌}
use Rattle.cv_osv.specs.Json.{member_at, object_or, text_or, optional_text_or, items_or, items_list}
use Rattle.cv_osv.specs.Record.{full_or, optional_package_of, turns_of, version_of}
use Rattle.cv_osv.specs.declared.record_error.RecordWhat.{RecordWhat}
use Rattle.cv_osv.specs.declared.record_error.RecordWhat.TheVariants.{NotObject, NoId, NoModified, BadWithdrawn, BadAffected, BadEntry, BadRange, BadEvent, BadVersions}
use Rattle.serde_json.specs.Data.{Data, Items}

-- the fault of one part, if it has one
abbrev pub fault_in : {A : Type 0} → Result A RecordWhat → List RecordWhat
fault_in (Ok x) = []
fault_in (Err what) = what ∷ []

-- the faults of a list: it is not one, or those of its items
abbrev pub list_faults : (Data → List RecordWhat) → Result Items RecordWhat → List RecordWhat
list_faults faults (Ok items) = flat_map faults (items_list items)
list_faults faults (Err what) = what ∷ []

-- a range has a type and events
abbrev pub range_faults : Data → List RecordWhat
range_faults d =
    fault_in (text_or BadRange (member_at (codes "type") d))
    ++ list_faults (λ event. fault_in (turns_of event)) (items_or BadEvent (member_at (codes "events") d))

-- an entry has a package, ranges and versions
abbrev pub entry_faults : Data → List RecordWhat
entry_faults d =
    fault_in (object_or BadEntry d)
    ++ (fault_in (optional_package_of (member_at (codes "package") d))
    ++ (list_faults range_faults (items_or BadRange (member_at (codes "ranges") d))
    ++ list_faults (λ version. fault_in (version_of version)) (items_or BadVersions (member_at (codes "versions") d))))

-- a record has members of its own and entries
abbrev pub record_faults : Data → List RecordWhat
record_faults d =
    fault_in (object_or NotObject d)
    ++ (fault_in (text_or NoId (member_at (codes "id") d) >>= full_or NoId)
    ++ (fault_in (text_or NoModified (member_at (codes "modified") d))
    ++ (fault_in (optional_text_or BadWithdrawn (member_at (codes "withdrawn") d))
    ++ list_faults entry_faults (items_or BadAffected (member_at (codes "affected") d)))))
