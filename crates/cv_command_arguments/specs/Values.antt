-- Which arguments the commands take and what they say, by cases (defined by this project). Laws say that this is clap's meaning of the
-- commands, for all arguments.
use Rattle.std.specs.Prelude.{Bool, true, false, ◌||◌, ℕ, if◌then◌else◌, List, [], ◌∷◌, codes, is_some, Option, Some, None, option_and_then, option_map, slice_get}
use Rattle.std.specs.Str.{bytes_eq, chars}
use Rattle.clap.specs.Lexer.{long_of, short_of}
use Rattle.clap.specs.Walk.{Text}
use Rattle.cv_command_arguments.specs.Forms.{Comparison, comparison, packages_named}
use Rattle.cv_command_arguments.specs.Simple.{number_in}

-- the character after a first hyphen, if the argument does not begin with two
abbrev pub flag_of : Text → Option ℕ
flag_of argument = option_and_then (λ flags. slice_get (chars flags) 0) (short_of argument)

-- the argument is written as an option: `-x`, `--name` or `--name=value`; a hyphen alone is a value, and `--` ends the options
abbrev pub is_option : Text → Bool
is_option argument = is_some (long_of argument) || is_some (flag_of argument)

-- the values, if no option is given: the arguments without the first `--`, after which each one is a value
unfoldable pub values_of : List Text → Option (List Text)
values_of [] = Some []
values_of (argument ∷ arguments) =
    if bytes_eq argument (codes "--") then Some arguments
    else (if is_option argument then None else option_map (λ values. argument ∷ values) (values_of arguments))

-- `order` has three values: the name of packages, and two versions of them
abbrev pub order_values : List Text → Option Comparison
order_values (name ∷ first ∷ second ∷ []) = comparison (packages_named name) (Some first) (Some second)
order_values _ = None

-- the comparison for which the arguments of `order` ask
abbrev pub order_form : List Text → Option Comparison
order_form arguments = option_and_then order_values (values_of arguments)

-- `drill` has one value, a number from 0 to 4294967295
abbrev pub drill_values : List Text → Option ℕ
drill_values (seed ∷ []) = number_in 0 4294967295 (Some seed)
drill_values _ = None

-- the seed that the arguments of `drill` give
abbrev pub drill_form : List Text → Option ℕ
drill_form arguments = option_and_then drill_values (values_of arguments)

-- there are no arguments, or `--` alone; a command without arguments takes nothing else
abbrev pub is_end : List Text → Bool
is_end [] = true
is_end (argument ∷ []) = bytes_eq argument (codes "--")
is_end (argument ∷ other ∷ arguments) = false

-- a number from 1 to 8, and nothing after it
abbrev pub workers_last : Text → List Text → Option (Option ℕ)
workers_last value arguments = if is_end arguments then option_map Some (number_in 1 8 (Some value)) else None

-- the number of workers stands after `=`, or is the next argument
abbrev pub workers_after : Option Text → List Text → Option (Option ℕ)
workers_after (Some value) arguments = workers_last value arguments
workers_after None [] = None
workers_after None (value ∷ arguments) = workers_last value arguments

-- the option has the name `--workers`
abbrev pub workers_option : Option (Text × Option Text) → List Text → Option (Option ℕ)
workers_option (Some (name, value)) arguments = if bytes_eq (codes "workers") name then workers_after value arguments else None
workers_option None arguments = None

-- what the arguments of `serve` say of its workers: nothing, or the number that `--workers N` or `--workers=N` gives
abbrev pub serve_form : List Text → Option (Option ℕ)
serve_form [] = Some None
serve_form (argument ∷ arguments) = if is_end (argument ∷ arguments) then Some None else workers_option (long_of argument) arguments
