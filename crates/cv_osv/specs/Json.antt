-- Reading the parts of a JSON value, up to the first fault (defined by this project). A member with the value null
-- counts as absent, and a value that is not an object has no members.
use Rattle.std.specs.Prelude.{ℕ, if◌then◌else◌, List, [], ◌∷◌, ◌++◌, Option, Some, None, is_some, option_map, option_and_then, Result, Ok, Err}
use Rattle.std.specs.Option.{ok_or}
use Rattle.cv_base.specs.Results.{◌>>=◌}
use Rattle.serde_json.specs.Data.{Data, Items, no_items, item}
use Rattle.serde_json.specs.Find.{get, as_array, as_null, as_object, as_str}

-- a value that is present: null counts as absent
abbrev pub present : Option Data → Option Data
present None = None
present (Some d) = if is_some (as_null d) then None else Some d

-- the member with this name
abbrev pub member_at : List ℕ → Data → Option Data
member_at name d = present (get name d)

-- the value has to be an object
abbrev pub object_or : {E : Type 0} → E → Data → Result (Unit {0}) E
object_or bad d = if is_some (as_object d) then Ok tt else Err bad

-- a text that has to be present
abbrev pub text_or : {E : Type 0} → E → Option Data → Result (List ℕ) E
text_or bad found = ok_or (option_and_then as_str found) bad

-- a text that may be absent
abbrev pub optional_text_or : {E : Type 0} → E → Option Data → Result (Option (List ℕ)) E
optional_text_or bad None = Ok None
optional_text_or bad (Some d) = ok_or (option_map Some (as_str d)) bad

-- a list that may be absent, and then has no items
abbrev pub items_or : {E : Type 0} → E → Option Data → Result Items E
items_or bad None = Ok no_items
items_or bad (Some d) = ok_or (as_array d) bad

-- the items as a list
abbrev pub items_list : Items → List Data
items_list no_items = []
items_list (item d ds) = d ∷ items_list ds

-- what each item is read as, in order
abbrev pub each : {A E : Type 0} → (Data → Result A E) → Items → Result (List A) E
each f no_items = Ok []
each f (item d ds) = f d >>= λ x. each f ds >>= λ xs. Ok (x ∷ xs)

-- the same if an item is read as several things
abbrev pub each_joined : {A E : Type 0} → (Data → Result (List A) E) → Items → Result (List A) E
each_joined f no_items = Ok []
each_joined f (item d ds) = f d >>= λ x. each_joined f ds >>= λ xs. Ok (x ++ xs)
