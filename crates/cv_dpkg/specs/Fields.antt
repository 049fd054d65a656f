-- The lines of a dpkg status file and the values of its fields (Debian Policy 5.1, deb-control(5)), as this project reads them.
-- The used fields are Package, Status, Version, Source and Architecture. Every other field is ignored.
use Rattle.std.specs.Prelude.{ℕ, Bool, false, ◌&&◌, ◌||◌, ◌==◌, if◌then◌else◌, not, List, [], ◌∷◌, codes, Option, None, Some, option_and_then}
use Rattle.std.specs.List.{filter, list_all, list_any, slice_split}
use Rattle.std.specs.Option.{option_map}
use Rattle.cv_base.specs.Cuts.{begins_with_blank, cut, is_blank, without_end, without_front}
use Rattle.cv_base.specs.Printing.{is_printing}
use Rattle.cv_base.specs.Texts.{is_nil, same, same_name}
use Rattle.cv_stanza.specs.Values.{last_value}
use Rattle.cv_dpkg.specs.declared.field.Field.{Field}
use Rattle.cv_dpkg.specs.declared.field.Field.TheVariants.{Package, Status, Version, Source, Architecture, Unused}

-- a line that continues the field before it begins with a blank
abbrev pub is_continuation : List ℕ → Bool
is_continuation line = begins_with_blank line

-- the byte between a field's name and its value
abbrev pub is_colon : ℕ → Bool
is_colon byte = byte == 58

-- a field: its name, and its value without blanks at the ends (those at the value's end are dropped with the line's)
pub record Pair : Type 0 where
  pub name : List ℕ
  pub value : List ℕ

-- the field that a line with a colon is
abbrev pub pair_in : List ℕ → Option Pair
pair_in text = option_map (λ p. record { name = p.0; value = without_front is_blank p.1 }) (cut is_colon text)

-- a line as a field, unless it continues another one or has no colon
abbrev pub field_of : List ℕ → Option Pair
field_of text = if is_continuation text then None else pair_in text

-- the field that a name names
abbrev pub named : List ℕ → Field
named name =
    if same_name name (codes "Package") then Package
    else (if same_name name (codes "Status") then Status
    else (if same_name name (codes "Version") then Version
    else (if same_name name (codes "Source") then Source
    else (if same_name name (codes "Architecture") then Architecture else Unused))))

-- the bytes that begin no name
abbrev pub is_bad_start : ℕ → Bool
is_bad_start byte = byte == 35 || byte == 45

-- a name of a field: printing bytes, at least one, with neither `#` nor `-` in front
abbrev pub is_name : List ℕ → Bool
is_name [] = false
is_name (x ∷ xs) = not (is_bad_start x) && list_all is_printing (x ∷ xs)

-- the words of a value are its runs of bytes that are not blank
abbrev pub words : List ℕ → List (List ℕ)
words value = filter (λ w. not (is_nil w)) (slice_split is_blank value)

-- the states of a package, after dpkg(1)
abbrev pub is_state : List ℕ → Bool
is_state word = list_any (same word) (codes "not-installed" ∷ codes "config-files" ∷ codes "half-installed" ∷ codes "unpacked" ∷ codes "half-configured"
    ∷ codes "triggers-awaited" ∷ codes "triggers-pending" ∷ codes "installed" ∷ [])

-- the last of three words, which is the state
abbrev pub third_state : List (List ℕ) → Option (List ℕ)
third_state (a ∷ b ∷ c ∷ []) = if is_state c then Some c else None
third_state ws = None

-- the state in a value of Status: want, flag, state (dpkg's order)
abbrev pub state_of : List ℕ → Option (List ℕ)
state_of value = third_state (words value)

-- the source package and its version, as a value of Source names them
pub record Origin : Type 0 where
  pub name : Option (List ℕ)
  pub version : Option (List ℕ)

-- 40 is `(`
abbrev pub is_open : ℕ → Bool
is_open byte = byte == 40

-- 41 is `)`
abbrev pub is_close : ℕ → Bool
is_close byte = byte == 41

-- a byte that prints and is no round bracket
abbrev pub is_word_byte : ℕ → Bool
is_word_byte byte = is_printing byte && (not (is_open byte) && not (is_close byte))

-- a name or version of a source: printing bytes without round brackets, at least one
abbrev pub is_word : List ℕ → Bool
is_word text = not (is_nil text) && list_all is_word_byte text

-- a name, and a version with nothing after its bracket
abbrev pub versioned : List ℕ → Option (List ℕ × List ℕ) → Option Origin
versioned name None = None
versioned name (Some p) = if is_word name && (is_word p.0 && is_nil p.1) then Some (record { name = Some name; version = Some p.0 }) else None

-- a name alone, or a name, blanks or none, and a version in round brackets
abbrev pub origin_by : List ℕ → Option (List ℕ × List ℕ) → Option Origin
origin_by value None = if is_word value then Some (record { name = Some value; version = None }) else None
origin_by value (Some p) = versioned (without_end is_blank p.0) (cut is_close p.1)

-- the source package after Debian Policy 5.6.1, which an empty value leaves open
abbrev pub origin_of : List ℕ → Option Origin
origin_of [] = Some (record { name = None; version = None })
origin_of (x ∷ xs) = origin_by (x ∷ xs) (cut is_open (x ∷ xs))

-- the index of a field
abbrev pub index : Field → ℕ
index Package = 0
index Status = 1
index Version = 2
index Source = 3
index Architecture = 4
index Unused = 5

-- the value that a line gives to a field, if it is that field
abbrev pub value_by : Field → Option Pair → Option (List ℕ)
value_by field None = None
value_by field (Some f) = if index (named f.name) == index field then Some f.value else None

-- the value of a field among lines. (No name stands twice where there is no fault.)
abbrev pub value : Field → List (List ℕ) → Option (List ℕ)
value field lines = last_value (λ t. value_by field (field_of t)) lines

-- what lines say of a package: values, the state in Status, and the two parts of Source
pub record Facts : Type 0 where
  pub name : Option (List ℕ)
  pub state : Option (List ℕ)
  pub version : Option (List ℕ)
  pub source : Option (List ℕ)
  pub source_version : Option (List ℕ)
  pub arch : Option (List ℕ)

-- the name of a source
abbrev pub source_name : Option Origin → Option (List ℕ)
source_name = option_and_then (λ o. o.name)

-- the version of a source
abbrev pub source_version : Option Origin → Option (List ℕ)
source_version = option_and_then (λ o. o.version)

-- what these lines say of a package
abbrev pub facts : List (List ℕ) → Facts
facts lines = record {
  name = value Package lines;
  state = option_and_then state_of (value Status lines);
  version = value Version lines;
  source = source_name (option_and_then origin_of (value Source lines));
  source_version = source_version (option_and_then origin_of (value Source lines));
  arch = value Architecture lines;
}
