-- Reading a record answers the first of its faults.
use Rattle.std.specs.Prelude.{◌≡◌, List, [], ◌∷◌, ◌++◌, codes, take, Result, Ok, Err, refl}
use Rattle.std.specs.List.{flat_map}
use Rattle.cv_base.specs.Results.{◌>>=◌}
use Rattle.cv_osv.specs.Faults.{entry_faults, fault_in, list_faults, range_faults, record_faults}
use Rattle.cv_osv.specs.Json.{each, each_joined, items_list, items_or, member_at, object_or, optional_text_or, text_or}
use Rattle.cv_osv.specs.Record.{advisory_of, entry_of, full_or, optional_package_of, range_of, turns_of, version_of}
use Rattle.cv_osv.specs.declared.record_error.RecordWhat.{RecordWhat}
use Rattle.cv_osv.specs.declared.record_error.RecordWhat.TheVariants.{NotObject, NoId, NoModified, BadWithdrawn, BadAffected, BadEntry, BadRange, BadEvent, BadVersions}
use Rattle.serde_json.specs.Data.{Data, Items, no_items, item}

-- the faults begin with that of the reading, if it has one
abbrev IsFirst : {A : Type 0} → Result A RecordWhat → List RecordWhat → Type 0
IsFirst r faults = fault_in r ≡ take 1 faults

-- one part is read, and then what follows
then_first : {A B : Type 0} (r : Result A RecordWhat) (f : A → Result B RecordWhat) (faults : List RecordWhat) → ((x : A) → IsFirst (f x) faults) → IsFirst (r >>= f) (fault_in r ++ faults)
then_first (Ok x) f faults h = h x
then_first (Err what) f faults h = refl

-- the last part
last_first : {A B : Type 0} (r : Result A RecordWhat) (f : A → B) (faults : List RecordWhat) → IsFirst r faults → IsFirst (r >>= λ x. Ok (f x)) faults
last_first (Ok x) f faults h = h
last_first (Err what) f faults h = h

-- faults that others follow
more_first : {A B : Type 0} (r : Result A RecordWhat) (f : A → Result B RecordWhat) (faults later : List RecordWhat) → IsFirst r faults → ((x : A) → IsFirst (f x) later) → IsFirst (r >>= f) (faults ++ later)
more_first (Ok x) f [] later h k = k x
more_first (Ok x) f (what ∷ faults) later h k = absurd (cc)
more_first (Err what) f [] later h k = absurd (cc)
more_first (Err what) f (other ∷ faults) later h k = h

-- the items of a list
each_first : {A : Type 0} (f : Data → Result A RecordWhat) (faults : Data → List RecordWhat) → ((d : Data) → IsFirst (f d) (faults d)) → (items : Items) → IsFirst (each f items) (flat_map faults (items_list items))
each_first f faults h no_items = refl
each_first f faults h (item d ds) = more_first (f d) _ (faults d) (flat_map faults (items_list ds)) (h d) (λ x. last_first (each f ds) (λ xs. x ∷ xs) _ (each_first f faults h ds))

joined_first : {A : Type 0} (f : Data → Result (List A) RecordWhat) (faults : Data → List RecordWhat) → ((d : Data) → IsFirst (f d) (faults d)) → (items : Items) → IsFirst (each_joined f items) (flat_map faults (items_list items))
joined_first f faults h no_items = refl
joined_first f faults h (item d ds) = more_first (f d) _ (faults d) (flat_map faults (items_list ds)) (h d) (λ x. last_first (each_joined f ds) (λ xs. x ++ xs) _ (joined_first f faults h ds))

-- a list, and its items
list_first : {A B : Type 0} (found : Result Items RecordWhat) (read : Items → Result A RecordWhat) (f : A → Result B RecordWhat) (faults : Data → List RecordWhat) (later : List RecordWhat)
    → ((items : Items) → IsFirst (read items) (flat_map faults (items_list items))) → ((x : A) → IsFirst (f x) later)
    → IsFirst (found >>= λ items. read items >>= f) (list_faults faults found ++ later)
list_first (Ok items) read f faults later h k = more_first (read items) f (flat_map faults (items_list items)) later (h items) k
list_first (Err what) read f faults later h k = refl

-- a list at the end
end_first : {A B : Type 0} (found : Result Items RecordWhat) (read : Items → Result A RecordWhat) (f : A → B) (faults : Data → List RecordWhat)
    → ((items : Items) → IsFirst (read items) (flat_map faults (items_list items)))
    → IsFirst (found >>= λ items. read items >>= λ x. Ok (f x)) (list_faults faults found)
end_first (Ok items) read f faults h = last_first (read items) f (flat_map faults (items_list items)) (h items)
end_first (Err what) read f faults h = refl

one_first : {A : Type 0} (r : Result A RecordWhat) → IsFirst r (fault_in r)
one_first (Ok x) = refl
one_first (Err what) = refl

range_first : (d : Data) → IsFirst (range_of d) (range_faults d)
unfolding range_of
range_first d =
    then_first (text_or BadRange (member_at (codes "type") d)) _ _
    (λ kind. end_first (items_or BadEvent (member_at (codes "events") d)) (each_joined turns_of) _ (λ event. fault_in (turns_of event)) (joined_first turns_of _ (λ event. one_first (turns_of event))))

entry_first : (d : Data) → IsFirst (entry_of d) (entry_faults d)
unfolding entry_of
entry_first d =
    then_first (object_or BadEntry d) _ _
    (λ _. then_first (optional_package_of (member_at (codes "package") d)) _ _
    (λ name. list_first (items_or BadRange (member_at (codes "ranges") d)) (each range_of) _ range_faults _ (each_first range_of range_faults range_first)
    (λ ranges. end_first (items_or BadVersions (member_at (codes "versions") d)) (each version_of) _ (λ version. fault_in (version_of version)) (each_first version_of _ (λ version. one_first (version_of version))))))

-- a text, and then what it has to be
text_first : {A B C : Type 0} (r : Result A RecordWhat) (g : A → Result B RecordWhat) (f : B → Result C RecordWhat) (faults : List RecordWhat) → ((y : B) → IsFirst (f y) faults) → IsFirst (r >>= λ x. g x >>= f) (fault_in (r >>= g) ++ faults)
text_first (Ok x) g f faults h = then_first (g x) f faults h
text_first (Err what) g f faults h = refl

pub record_first : (d : Data) → fault_in (advisory_of d) ≡ take 1 (record_faults d)
unfolding advisory_of
record_first d =
    then_first (object_or NotObject d) _ _
    (λ _. text_first (text_or NoId (member_at (codes "id") d)) (full_or NoId) _ _
    (λ id. then_first (text_or NoModified (member_at (codes "modified") d)) _ _
    (λ modified. then_first (optional_text_or BadWithdrawn (member_at (codes "withdrawn") d)) _ _
    (λ withdrawn. end_first (items_or BadAffected (member_at (codes "affected") d)) (each entry_of) _ entry_faults (each_first entry_of entry_faults entry_first)))))
