-- The value that a tree of the kit's `json` is to serde_json (RFC 8259): an object has each key once, and the last value of a
-- key stays. Here a number is what serde_json makes of it, and 0 if it is out of range, where serde_json has no value at all.
use Rattle.std.specs.Prelude.{ℕ, Bool, false, not, ◌||◌, List, Option, Some, None, is_some, option_and_then, Result, Ok}
use Rattle.cv_base.specs.Results.{◌>>=◌}
use Rattle.cv_osv.specs.Record.{advisory_of}
use Rattle.cv_osv.specs.Records.{RecordRead}
use Rattle.cv_request.specs.Line.{json_or}
use Rattle.cv_request.specs.declared.error.RequestFault.{RequestFault}
use Rattle.json.specs.Lex.{tokens}
use Rattle.json.specs.Json as json
use Rattle.json.specs.Value.{value_view}
use Rattle.json.specs.declared.value.Value.{Value}
use Rattle.serde_json.specs.Data.{Num, unsigned, Data, null, boolean, number, string, array, object, Items, no_items, item, Members, no_members, put}
use Rattle.serde_json.specs.Read.{number_of, max_depth}

-- a number, or 0
abbrev pub number_or : Option Num → Data
number_or None = number (unsigned 0)
number_or (Some n) = number n

-- the value of a tree
abbrev mutual
  pub data_of : json.Json → Data
  data_of json.null = null
  data_of (json.boolean b) = boolean b
  data_of (json.number s) = number_or (number_of s)
  data_of (json.string s) = string s
  data_of (json.array js) = array (data_items js)
  data_of (json.object ms) = object (data_members ms no_members)

  -- the values of items
  pub data_items : json.Items → Items
  data_items json.no_items = no_items
  data_items (json.item j js) = item (data_of j) (data_items js)

  -- the members, after those that were found
  pub data_members : json.Members → Members → Members
  data_members json.no_members found = found
  data_members (json.member k j ms) found = data_members ms (put k (data_of j) found)

-- a number somewhere in a tree is out of range for serde_json
abbrev mutual
  pub has_bad_number : json.Json → Bool
  has_bad_number json.null = false
  has_bad_number (json.boolean b) = false
  has_bad_number (json.number s) = not (is_some (number_of s))
  has_bad_number (json.string s) = false
  has_bad_number (json.array js) = items_bad_number js
  has_bad_number (json.object ms) = members_bad_number ms

  -- in one of these items
  pub items_bad_number : json.Items → Bool
  items_bad_number json.no_items = false
  items_bad_number (json.item j js) = has_bad_number j || items_bad_number js

  -- in one of these members
  pub members_bad_number : json.Members → Bool
  members_bad_number json.no_members = false
  members_bad_number (json.member k j ms) = has_bad_number j || members_bad_number ms

-- a value of json as data of serde_json
abbrev pub data_view : {A : Type 0} → Value A → Data
data_view v = data_of (value_view v)

-- the tree that a text is, as deep as serde_json reads it: what serde_json makes of it is `read`
abbrev pub tree_of : List ℕ → Option json.Json
tree_of text = option_and_then (λ p. json.if_last p.0 p.1) (json.value max_depth (tokens text))

-- a value, read as a record
abbrev pub line_read : List ℕ → Result RecordRead RequestFault
line_read line = json_or line >>= λ d. Ok (advisory_of d)
