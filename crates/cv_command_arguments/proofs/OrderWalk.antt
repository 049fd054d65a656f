-- What clap reads of the arguments of `order`, by their values.
use Rattle.std.proofs.Common.{◌≡◌, Bool, true, false, List, [], ◌∷◌, refl, ◌∙◌, cond}
use Rattle.std.specs.Prelude.{Option, Some, None, codes, option_and_then}
use Rattle.clap.specs.Simple.{Shape}
use Rattle.clap.specs.ValueTests.{accepts}
use Rattle.clap.specs.Walk.{Row, Text}
use Rattle.clap.specs.declared.builder.value_parser.ValueParser.TheVariants as parser
use Rattle.clap.proofs.OnLiterals.{clap_on_literals}
use Rattle.cv_command_arguments.specs.Forms.{Names, order_app}
use Rattle.cv_command_arguments.specs.Simple.{rows_by}
use Rattle.cv_command_arguments.specs.Values.{values_of}
use Rattle.cv_command_arguments.proofs.WalkLemmas.{HasNoLong, HasNoShort, IsValue, at, by_values, given, nothing_after, positional, refuses_after_end, refuses_value, rows_from, shape_named, takes_after_end, takes_value, value_row, without_subcommands}

abbrev order_shape : Names → Shape
order_shape names =
    shape_named (codes "order") (positional (codes "packages") 1 (parser.Names names) ∷ positional (codes "first") 2 parser.String ∷ positional (codes "second") 3 parser.String ∷ [])

-- what is read of values, after those that were read
abbrev pub after_three : Text → Text → Text → List Text → Option (List Row)
after_three a b c [] = Some (value_row (codes "packages") a ∷ value_row (codes "first") b ∷ value_row (codes "second") c ∷ [])
after_three a b c (value ∷ values) = None

abbrev pub after_two : Text → Text → List Text → Option (List Row)
after_two a b [] = None
after_two a b (c ∷ values) = after_three a b c values

abbrev pub after_one : Names → Text → List Text → Option (List Row)
after_one names a [] = None
after_one names a (b ∷ values) = cond (accepts false (parser.Names names) a) (after_two a b values) None

abbrev pub of_values : Names → List Text → Option (List Row)
of_values names [] = None
of_values names (a ∷ values) = after_one names a values

no_long : (names : Names) → HasNoLong (order_shape names)
no_long names name = refl

no_short : (names : Names) → HasNoShort (order_shape names)
no_short names x = refl

abbrev one_row : Text → List Row
one_row a = value_row (codes "packages") a ∷ []

abbrev two_rows : Text → Text → List Row
two_rows a b = value_row (codes "packages") a ∷ value_row (codes "first") b ∷ []

-- after three values
trail_three : (names : Names) (a b c : Text) (values : List Text)
    → rows_from (order_shape names) (at (two_rows a b) (given (codes "second") c) 4 true) values ≡ after_three a b c values
unfolding clap_on_literals
trail_three names a b c [] = refl
trail_three names a b c (value ∷ values) = refuses_after_end (order_shape names) (two_rows a b) (given (codes "second") c) 4 value values refl

three : (names : Names) (a b c : Text) (arguments : List Text)
    → rows_from (order_shape names) (at (two_rows a b) (given (codes "second") c) 4 false) arguments ≡ option_and_then (after_three a b c) (values_of arguments)
unfolding clap_on_literals
three names a b c = by_values (order_shape names) (no_long names) (no_short names) (two_rows a b) (given (codes "second") c) 4 (after_three a b c) (trail_three names a b c)
    (λ argument arguments is_value. refuses_value (order_shape names) (two_rows a b) (given (codes "second") c) 4 false argument arguments is_value refl ∙ nothing_after (values_of arguments))

-- after two
trail_two : (names : Names) (a b : Text) (values : List Text)
    → rows_from (order_shape names) (at (one_row a) (given (codes "first") b) 3 true) values ≡ after_two a b values
unfolding clap_on_literals
trail_two names a b [] = refl
trail_two names a b (c ∷ values) =
    takes_after_end (order_shape names) (one_row a) (given (codes "first") b) 3 (at (two_rows a b) (given (codes "second") c) 4 true) c values refl refl
    ∙ trail_three names a b c values

two : (names : Names) (a b : Text) (arguments : List Text)
    → rows_from (order_shape names) (at (one_row a) (given (codes "first") b) 3 false) arguments ≡ option_and_then (after_two a b) (values_of arguments)
unfolding clap_on_literals
two names a b = by_values (order_shape names) (no_long names) (no_short names) (one_row a) (given (codes "first") b) 3 (after_two a b) (trail_two names a b)
    (λ argument arguments is_value. takes_value (order_shape names) (one_row a) (given (codes "first") b) 3 false (at (two_rows a b) (given (codes "second") argument) 4 false) argument arguments is_value refl refl
    ∙ three names a b argument arguments)

-- after one, which has to be one of the names
trail_one : (names : Names) (a : Text) (values : List Text)
    → rows_from (order_shape names) (at [] (given (codes "packages") a) 2 true) values ≡ after_one names a values
unfolding clap_on_literals
trail_one names a [] = go (accepts false (parser.Names names) a) refl
  where
    go : (named : Bool) → accepts false (parser.Names names) a ≡ named → rows_from (order_shape names) (at [] (given (codes "packages") a) 2 true) [] ≡ None
    go true e = rw e refl
    go false e = rw e refl
trail_one names a (b ∷ values) = go (accepts false (parser.Names names) a) refl
  where
    go : (named : Bool) → accepts false (parser.Names names) a ≡ named
        → rows_from (order_shape names) (at [] (given (codes "packages") a) 2 true) (b ∷ values) ≡ after_one names a (b ∷ values)
    go true e =
        takes_after_end (order_shape names) [] (given (codes "packages") a) 2 (at (one_row a) (given (codes "first") b) 3 true) b values (rw e refl) refl
        ∙ trail_two names a b values ∙ rw e refl
    go false e = refuses_after_end (order_shape names) [] (given (codes "packages") a) 2 b values (rw e refl) ∙ rw e refl

one : (names : Names) (a : Text) (arguments : List Text)
    → rows_from (order_shape names) (at [] (given (codes "packages") a) 2 false) arguments ≡ option_and_then (after_one names a) (values_of arguments)
unfolding clap_on_literals
one names a = by_values (order_shape names) (no_long names) (no_short names) [] (given (codes "packages") a) 2 (after_one names a) (trail_one names a) (go (accepts false (parser.Names names) a) refl)
  where
    go : (named : Bool) → accepts false (parser.Names names) a ≡ named → (b : Text) (arguments : List Text) → IsValue (order_shape names) [] (given (codes "packages") a) 2 false b
        → rows_from (order_shape names) (at [] (given (codes "packages") a) 2 false) (b ∷ arguments) ≡ option_and_then (λ values. after_one names a (b ∷ values)) (values_of arguments)
    go true e b arguments is_value =
        takes_value (order_shape names) [] (given (codes "packages") a) 2 false (at (one_row a) (given (codes "first") b) 3 false) b arguments is_value (rw e refl) refl
        ∙ two names a b arguments ∙ rw e refl
    go false e b arguments is_value =
        refuses_value (order_shape names) [] (given (codes "packages") a) 2 false b arguments is_value (rw e refl) ∙ nothing_after (values_of arguments) ∙ rw e refl

-- at the start
trail_none : (names : Names) (values : List Text) → rows_from (order_shape names) (at [] None 1 true) values ≡ of_values names values
unfolding clap_on_literals
trail_none names [] = refl
trail_none names (a ∷ values) =
    takes_after_end (order_shape names) [] None 1 (at [] (given (codes "packages") a) 2 true) a values refl refl ∙ trail_one names a values

none : (names : Names) (arguments : List Text) → rows_from (order_shape names) (at [] None 1 false) arguments ≡ option_and_then (of_values names) (values_of arguments)
unfolding clap_on_literals
none names = by_values (order_shape names) (no_long names) (no_short names) [] None 1 (of_values names) (trail_none names)
    (λ argument arguments is_value. takes_value (order_shape names) [] None 1 false (at [] (given (codes "packages") argument) 2 false) argument arguments is_value refl refl
    ∙ one names argument arguments)

-- clap's meaning of the command, with any names for its first argument
pub rows_of_values : (names : Names) (arguments : List Text) → rows_by (order_app names) arguments ≡ option_and_then (of_values names) (values_of arguments)
unfolding order_app rows_by
rows_of_values names arguments = rw (without_subcommands (order_shape names) (at [] None 1 false).held arguments) (none names arguments)
