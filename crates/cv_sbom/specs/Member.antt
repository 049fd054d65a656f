-- Members of a component list (CycloneDX 1.5, JSON). A value that is not an object has no members. A member with the value null
-- is present.
use Rattle.std.specs.Prelude.{ℕ, Bool, false, if◌then◌else◌, List, codes, Option, Some, None, option_and_then}
use Rattle.serde_json.specs.Data.{Data, Items, no_items, item}
use Rattle.serde_json.specs.Find.{as_array, as_str, get}
use Rattle.cv_base.specs.Texts.{same}

-- the text of a member
abbrev pub text_at : List ℕ → Data → Option (List ℕ)
text_at name value = option_and_then as_str (get name value)

-- the items of a member that is a list
abbrev pub items_at : List ℕ → Data → Option Items
items_at name value = option_and_then as_array (get name value)

-- whether a text is present and this one
abbrev pub is_text : List ℕ → Option (List ℕ) → Bool
is_text wanted None = false
is_text wanted (Some text) = same text wanted

-- whether the member `name` of a value is this text
abbrev pub is_named : List ℕ → Data → Bool
is_named name value = is_text name (text_at (codes "name") value)

-- the text of the first property with this name, if it has one. Later properties with the name do not count
abbrev pub property : List ℕ → Items → Option (List ℕ)
property name no_items = None
property name (item d ds) = if is_named name d then text_at (codes "value") d else property name ds
