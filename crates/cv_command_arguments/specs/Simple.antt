-- The simple commands of clap (version 4, by the meaning that its specification in Rattle's kit gives them), and what is read by
-- them.
use Rattle.std.specs.Prelude.{ℕ, Bool, true, false, ◌&&◌, nat_le, nat_lt, if◌then◌else◌, List, [], ◌∷◌, map, Option, Some, None, option_and_then, string_bytes}
use Rattle.std.specs.declared.string.String.{String}
use Rattle.std.specs.Str.Parse.{digits_value, without_leading_plus}
use Rattle.clap.specs.Kinds.{Kinds}
use Rattle.clap.specs.Faults.{fault_of}
use Rattle.clap.specs.Simple.{App, matches_of, new_app, on_top}
use Rattle.clap.specs.ValueTests.{is_numeral}
use Rattle.clap.specs.Walk.{Row, Text}

-- arguments as texts
abbrev pub texts_of : {Z : Type 0} → List (String Z) → List Text
texts_of arguments = map (λ argument. string_bytes argument) arguments

-- a command without arguments, of which all arguments are read and none is for help
abbrev pub app_named : Text → App
app_named name = on_top (λ shape. record shape { no_binary_name = true; disable_help_flag = true }) (new_app name)

-- there is no kind of error
abbrev pub is_quiet : Kinds → Bool
is_quiet [] = true
is_quiet (kind ∷ kinds) = false

-- a command takes these arguments
abbrev pub is_taken : App → List Text → Bool
is_taken app arguments = is_quiet (fault_of app arguments)

-- what a command reads of the arguments, if it takes them
unfoldable pub rows_by : App → List Text → Option (List Row)
rows_by app arguments = if is_taken app arguments then Some (matches_of app arguments) else None

-- the decimal number of 32 bits that a text is; a plus may stand first
abbrev pub number : Text → Option ℕ
number text =
    let digits = without_leading_plus text in
    if is_numeral digits && nat_lt (digits_value 10 digits) 4294967296 then Some (digits_value 10 digits) else None

-- the number, if it stands between two bounds
abbrev pub within : ℕ → ℕ → ℕ → Option ℕ
within least most n = if nat_le least n && nat_le n most then Some n else None

-- the number between two bounds that a text is, if there is one
abbrev pub number_in : ℕ → ℕ → Option Text → Option ℕ
number_in least most text = option_and_then (within least most) (option_and_then number text)
