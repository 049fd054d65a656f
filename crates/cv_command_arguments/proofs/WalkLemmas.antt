-- A walk of clap over the arguments of a command, first of any, and then of one that has no options.
use Rattle.std.proofs.Common.{◌≡◌, ℕ, Bool, true, false, List, [], ◌∷◌, refl, ◌∙◌, ap, cond}
use Rattle.std.specs.Prelude.{Option, Some, None, is_some, codes, fold, option_and_then, option_map, slice_get}
use Rattle.std.specs.Str.{bytes_eq, chars}
use Rattle.clap.specs.Faults.{check_fault, built_fault, defaults_fault, entered_fault, flags_fault, settle_fault, step_fault, turn_fault, walk_fault}
use Rattle.clap.specs.Kinds.{Kinds, or_else}
use Rattle.clap.specs.Lexer.{long_of, short_of}
use Rattle.clap.specs.Simple.{Shape, entered, new_rule, new_shape}
use Rattle.clap.specs.Walk.{Held, Row, Rule, Text, Walk, arg_by_index, arg_by_long, arg_by_short, bundle_met, finished, idle, settled, to_positional, value, walk, walk_from, walked}
use Rattle.clap.specs.declared.builder.action.ArgAction.TheVariants.{Set}
use Rattle.clap.specs.declared.builder.value_parser.ValueParser.{ValueParser}
use Rattle.clap.specs.declared.builder.value_parser.Reading.TheVariants.{AsWritten}
use Rattle.clap.specs.declared.parser.matches.ValueSource.TheVariants.{CommandLine}
use Rattle.cv_command_arguments.specs.Simple.{is_quiet}
use Rattle.cv_command_arguments.specs.Values.{is_option, values_of}

-- the faults after a walk
abbrev pub end_fault : Shape → Held → Kinds
end_fault s h = or_else (settle_fault s.rules s.args_override_self h) (or_else (defaults_fault (settled s.rules h).rows s.rules) (check_fault s (finished s.rules h) false))

-- what is read of further arguments
abbrev pub rows_from : Shape → Walk → List Text → Option (List Row)
rows_from s w arguments =
    let end = (fold (walked s.rules []) w arguments).held in
    cond (is_quiet (or_else (walk_fault s [] w arguments) (end_fault s end))) (Some (finished s.rules end)) None

-- a command without subcommands has the faults of its walk and those after it
pub without_subcommands : (s : Shape) (h : Held) (arguments : List Text)
    → built_fault (record { top = s; subs = [] }) h arguments ≡ or_else (walk_fault s [] (walk_from h) arguments) (end_fault s (walk s.rules [] h arguments).held)
without_subcommands s h arguments = go (walk s.rules [] h arguments).stopped
  where
    go : (stop : Option (Text × List Text))
        → or_else (walk_fault s [] (walk_from h) arguments) (or_else (entered_fault (record { top = s; subs = [] }) stop)
        (or_else (settle_fault s.rules s.args_override_self (walk s.rules [] h arguments).held)
        (or_else (defaults_fault (settled s.rules (walk s.rules [] h arguments).held).rows s.rules)
        (check_fault s (finished s.rules (walk s.rules [] h arguments).held) (is_some (entered (record { top = s; subs = [] }) stop))))))
        ≡ or_else (walk_fault s [] (walk_from h) arguments) (end_fault s (walk s.rules [] h arguments).held)
    go None = refl
    go (Some p) = refl

loud : (kinds rest after : Kinds) → is_quiet kinds ≡ false → is_quiet (or_else (or_else kinds rest) after) ≡ false
loud [] rest after e = absurd (cc e)
loud (k ∷ ks) rest after e = refl

-- an argument that is refused is the end
pub stops : (s : Shape) (w : Walk) (argument : Text) (arguments : List Text) → is_quiet (turn_fault s [] w argument) ≡ false → rows_from s w (argument ∷ arguments) ≡ None
unfolding walk_fault
stops s w argument arguments e =
    rw (loud (turn_fault s [] w argument) (walk_fault s [] (walked s.rules [] w argument) arguments) (end_fault s (fold (walked s.rules []) w (argument ∷ arguments)).held) e) refl

-- one that is taken leads on
pub goes_on : (s : Shape) (w : Walk) (argument : Text) (arguments : List Text) → turn_fault s [] w argument ≡ []
    → rows_from s w (argument ∷ arguments) ≡ rows_from s (walked s.rules [] w argument) arguments
unfolding walk_fault
goes_on s w argument arguments e = rw e refl

-- the place of a walk between two arguments, if no option is waiting for its value
abbrev pub at : List Row → Option (Text × List Text) → ℕ → Bool → Walk
at rows pending position is_trailing =
    record { held = record { rows = rows; pending = pending; skip = 0 }; waiting = idle; position = position; is_trailing = is_trailing; stopped = None }

-- the arguments have no names
abbrev pub HasNoLong : Shape → Type 0
HasNoLong s = (name : Text) → arg_by_long s.rules name ≡ None

abbrev pub HasNoShort : Shape → Type 0
HasNoShort s = (x : ℕ) → arg_by_short s.rules x ≡ None

-- an option is refused
pub option_refused : (s : Shape) → HasNoLong s → HasNoShort s → (rows : List Row) (pending : Option (Text × List Text)) (position : ℕ) (argument : Text)
    → bytes_eq argument (codes "--") ≡ false → is_option argument ≡ true → is_quiet (turn_fault s [] (at rows pending position false) argument) ≡ false
unfolding bundle_met flags_fault chars
option_refused s no_long no_short rows pending position argument other option = by_long (long_of argument) refl
  where
    by_flag : (flags : Text) (first : Option ℕ) → long_of argument ≡ None → short_of argument ≡ Some flags → slice_get (chars flags) 0 ≡ first → is_some first ≡ true
        → is_quiet (turn_fault s [] (at rows pending position false) argument) ≡ false
    by_flag flags None long short e h = absurd (cc h)
    by_flag [] (Some x) long short e h = absurd (cc e)
    by_flag (y ∷ ys) (Some x) long short e h = rw (other, long, short, e, no_short x) refl

    by_short : (flags : Option Text) → long_of argument ≡ None → short_of argument ≡ flags → is_some (option_and_then (λ fs. slice_get (chars fs) 0) flags) ≡ true
        → is_quiet (turn_fault s [] (at rows pending position false) argument) ≡ false
    by_short None long short h = absurd (cc h)
    by_short (Some flags) long short h = by_flag flags (slice_get (chars flags) 0) long short refl h

    by_long : (long : Option (Text × Option Text)) → long_of argument ≡ long → is_quiet (turn_fault s [] (at rows pending position false) argument) ≡ false
    by_long (Some p) e = rw (other, e, no_long p.0) refl
    by_long None e = by_short (short_of argument) e refl (rw e at option)

-- `--` is taken, and all arguments after it are values
pub end_taken : (s : Shape) (rows : List Row) (pending : Option (Text × List Text)) (position : ℕ) (argument : Text) → bytes_eq argument (codes "--") ≡ true
    → (turn_fault s [] (at rows pending position false) argument ≡ []) × (walked s.rules [] (at rows pending position false) argument ≡ at rows pending position true)
unfolding walked
end_taken s rows pending position argument e = (rw e refl, rw e refl)

-- an argument that is no option goes to the positional
abbrev pub IsValue : Shape → List Row → Option (Text × List Text) → ℕ → Bool → Text → Type 0
IsValue s rows pending position is_trailing argument =
    let w = at rows pending position is_trailing in
    (turn_fault s [] w argument ≡ step_fault s position w.held value) × (walked s.rules [] w argument ≡ to_positional s.rules (arg_by_index s.rules position) argument w w.held)

pub value_given : (s : Shape) (rows : List Row) (pending : Option (Text × List Text)) (position : ℕ) (argument : Text)
    → bytes_eq argument (codes "--") ≡ false → is_option argument ≡ false → IsValue s rows pending position false argument
unfolding walked bundle_met flags_fault chars
value_given s rows pending position argument other plain = by_long (long_of argument) refl
  where
    by_flag : (flags : Text) (first : Option ℕ) → long_of argument ≡ None → short_of argument ≡ Some flags → slice_get (chars flags) 0 ≡ first → is_some first ≡ false
        → IsValue s rows pending position false argument
    by_flag flags (Some x) long short e h = absurd (cc h)
    by_flag [] None long short e h = (rw (other, long, short) refl, rw (other, long, short) refl)
    by_flag (y ∷ ys) None long short e h = (rw (other, long, short, e) refl, rw (other, long, short, e) refl)

    by_short : (flags : Option Text) → long_of argument ≡ None → short_of argument ≡ flags → is_some (option_and_then (λ fs. slice_get (chars fs) 0) flags) ≡ false
        → IsValue s rows pending position false argument
    by_short None long short h = (rw (other, long, short) refl, rw (other, long, short) refl)
    by_short (Some flags) long short h = by_flag flags (slice_get (chars flags) 0) long short refl h

    by_long : (long : Option (Text × Option Text)) → long_of argument ≡ long → IsValue s rows pending position false argument
    by_long (Some p) e = absurd (cc (rw e at plain))
    by_long None e = by_short (short_of argument) e refl (rw e at plain)

pub value_after_end : (s : Shape) (rows : List Row) (pending : Option (Text × List Text)) (position : ℕ) (argument : Text) → IsValue s rows pending position true argument
unfolding walked
value_after_end s rows pending position argument = (refl, refl)

and_then_map : {X : Type 0} (answer : List Text → Option X) (argument : Text) (found : Option (List Text))
    → option_and_then (λ values. answer (argument ∷ values)) found ≡ option_and_then answer (option_map (λ values. argument ∷ values) found)
and_then_map answer argument None = refl
and_then_map answer argument (Some values) = refl

-- if it is known what is read of values alone, and of a first value, then it is known of all arguments
pub by_values : (s : Shape) → HasNoLong s → HasNoShort s → (rows : List Row) (pending : Option (Text × List Text)) (position : ℕ) (answer : List Text → Option (List Row))
    → ((values : List Text) → rows_from s (at rows pending position true) values ≡ answer values)
    → ((argument : Text) (arguments : List Text) → IsValue s rows pending position false argument
    → rows_from s (at rows pending position false) (argument ∷ arguments) ≡ option_and_then (λ values. answer (argument ∷ values)) (values_of arguments))
    → (arguments : List Text) → rows_from s (at rows pending position false) arguments ≡ option_and_then answer (values_of arguments)
unfolding values_of walk_fault
by_values s no_long no_short rows pending position answer after first [] = after []
by_values s no_long no_short rows pending position answer after first (argument ∷ arguments) = by_end (bytes_eq argument (codes "--")) refl
  where
    by_option : (option : Bool) → bytes_eq argument (codes "--") ≡ false → is_option argument ≡ option
        → rows_from s (at rows pending position false) (argument ∷ arguments) ≡ option_and_then answer (values_of (argument ∷ arguments))
    by_option true other e = stops s (at rows pending position false) argument arguments (option_refused s no_long no_short rows pending position argument other e) ∙ rw (other, e) refl
    by_option false other e =
        first argument arguments (value_given s rows pending position argument other e) ∙ and_then_map answer argument (values_of arguments) ∙ rw (other, e) refl

    by_end : (end : Bool) → bytes_eq argument (codes "--") ≡ end → rows_from s (at rows pending position false) (argument ∷ arguments) ≡ option_and_then answer (values_of (argument ∷ arguments))
    by_end true e =
        let taken = end_taken s rows pending position argument e in
        goes_on s (at rows pending position false) argument arguments taken.0 ∙ ap (λ w. rows_from s w arguments) taken.1 ∙ after arguments ∙ rw e refl
    by_end false e = by_option (is_option argument) e refl

-- a value that the positional takes
pub takes_value : (s : Shape) (rows : List Row) (pending : Option (Text × List Text)) (position : ℕ) (is_trailing : Bool) (next : Walk) (argument : Text) (arguments : List Text)
    → IsValue s rows pending position is_trailing argument → step_fault s position (at rows pending position is_trailing).held value ≡ []
    → to_positional s.rules (arg_by_index s.rules position) argument (at rows pending position is_trailing) (at rows pending position is_trailing).held ≡ next
    → rows_from s (at rows pending position is_trailing) (argument ∷ arguments) ≡ rows_from s next arguments
takes_value s rows pending position is_trailing next argument arguments given quiet same =
    goes_on s (at rows pending position is_trailing) argument arguments (given.0 ∙ quiet) ∙ ap (λ w. rows_from s w arguments) (given.1 ∙ same)

-- and one that it does not take
pub refuses_value : (s : Shape) (rows : List Row) (pending : Option (Text × List Text)) (position : ℕ) (is_trailing : Bool) (argument : Text) (arguments : List Text)
    → IsValue s rows pending position is_trailing argument → is_quiet (step_fault s position (at rows pending position is_trailing).held value) ≡ false
    → rows_from s (at rows pending position is_trailing) (argument ∷ arguments) ≡ None
refuses_value s rows pending position is_trailing argument arguments given loud = stops s (at rows pending position is_trailing) argument arguments (ap is_quiet given.0 ∙ loud)

-- the same after `--`
pub takes_after_end : (s : Shape) (rows : List Row) (pending : Option (Text × List Text)) (position : ℕ) (next : Walk) (argument : Text) (arguments : List Text)
    → step_fault s position (at rows pending position true).held value ≡ []
    → to_positional s.rules (arg_by_index s.rules position) argument (at rows pending position true) (at rows pending position true).held ≡ next
    → rows_from s (at rows pending position true) (argument ∷ arguments) ≡ rows_from s next arguments
takes_after_end s rows pending position next argument arguments = takes_value s rows pending position true next argument arguments (value_after_end s rows pending position argument)

pub refuses_after_end : (s : Shape) (rows : List Row) (pending : Option (Text × List Text)) (position : ℕ) (argument : Text) (arguments : List Text)
    → is_quiet (step_fault s position (at rows pending position true).held value) ≡ false
    → rows_from s (at rows pending position true) (argument ∷ arguments) ≡ None
refuses_after_end s rows pending position argument arguments = refuses_value s rows pending position true argument arguments (value_after_end s rows pending position argument)

-- nothing is read
abbrev pub nothing : List Text → Option (List Row)
nothing values = None

pub nothing_after : (values : Option (List Text)) → None ≡ option_and_then nothing values
nothing_after None = refl
nothing_after (Some vs) = refl

-- an argument as clap fills it in: it has a place, and each use has one value
abbrev pub positional : Text → ℕ → ValueParser → Rule
positional id index parser = record (new_rule id) {
  index = Some index;
  action = Some Set;
  range = Some (record { start_inclusive = 1; end_inclusive = 1 });
  parser = Some parser;
  required = true;
}

-- the row of an argument with one value
abbrev pub value_row : Text → Text → Row
value_row id text = record { id = id; values = text ∷ []; count = None; source = Some CommandLine; reading = AsWritten }

-- the value waits to be used
abbrev pub given : Text → Text → Option (Text × List Text)
given id text = Some (id, text ∷ [])

-- a command with these arguments, as clap fills it in
abbrev pub shape_named : Text → List Rule → Shape
shape_named name rules = record (new_shape name) {
  rules = rules;
  no_binary_name = true;
  disable_help_flag = true;
  disable_help_subcommand = true;
  is_built = true;
}
