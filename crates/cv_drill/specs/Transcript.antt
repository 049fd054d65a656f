-- A transcript as the objects that its lines are (RFC 8259, as serde_json reads it), and what is asked of them (defined by this
-- project). A line that is no JSON object is ignored.
use Rattle.std.specs.Prelude.{ℕ, Bool, true, false, ◌||◌, if◌then◌else◌, List, [], ◌∷◌, Option, Some, None, option_and_then, is_some, unwrap_or}
use Rattle.std.specs.List.{filter_map, slice_split}
use Rattle.std.specs.Option.{option_map}
use Rattle.std.specs.Str.{is_utf8}
use Rattle.serde_json.specs.Data.{Data, Items, Members, null, boolean, number, string, array, object, no_items, item, no_members, member}
use Rattle.serde_json.specs.Find.{as_array, as_number, as_object, as_str, as_u64, get}
use Rattle.serde_json.specs.Read.{read}
use Rattle.cv_base.specs.Cuts.{is_lf}
use Rattle.cv_base.specs.Texts.{same}

-- the value that a line is, if it is UTF-8 and JSON
abbrev pub json_of : List ℕ → Option Data
json_of line = if is_utf8 line then read line else None

-- the value, if it is an object
abbrev pub object_of : Data → Option Data
object_of value = if is_some (as_object value) then Some value else None

-- the object that a line is
abbrev pub line_object : List ℕ → Option Data
line_object line = option_and_then object_of (json_of line)

-- the objects of a transcript, in the order of its lines
abbrev pub objects : List ℕ → List Data
objects transcript = filter_map line_object (slice_split is_lf transcript)

-- a member that is a text
abbrev pub text_at : List ℕ → Data → Option (List ℕ)
text_at key value = option_and_then as_str (get key value)

-- whether a member is this text
abbrev pub says : List ℕ → List ℕ → Data → Bool
says key word value = unwrap_or (option_map (λ text. same text word) (text_at key value)) false

-- a member that is a whole number of 64 bits; 0 if there is none
abbrev pub number_at : List ℕ → Data → ℕ
number_at key value = unwrap_or (option_and_then as_u64 (option_and_then as_number (get key value))) 0

-- the values of a list
abbrev pub list_of : Items → List Data
list_of no_items = []
list_of (item value more) = value ∷ list_of more

-- the values of a list, if it is one
abbrev pub list : Data → Option (List Data)
list value = option_map list_of (as_array value)

-- whether a number stands in a value, at any depth
abbrev mutual
  pub has_number : Data → Bool
  has_number null = false
  has_number (boolean b) = false
  has_number (number n) = true
  has_number (string text) = false
  has_number (array more) = items_have_number more
  has_number (object more) = members_have_number more

  pub items_have_number : Items → Bool
  items_have_number no_items = false
  items_have_number (item value more) = has_number value || items_have_number more

  pub members_have_number : Members → Bool
  members_have_number no_members = false
  members_have_number (member key value more) = has_number value || members_have_number more
