-- What clap reads of the arguments of `drill`, by their values.
use Rattle.std.proofs.Common.{◌≡◌, ℕ, ◌≤◌, Bool, true, false, List, [], ◌∷◌, refl, sym, ◌∙◌, ap, arith, cond}
use Rattle.std.specs.Prelude.{Option, Some, None, codes, is_some, option_and_then}
use Rattle.clap.specs.Simple.{Shape}
use Rattle.clap.specs.ValueTests.{is_unsigned_in}
use Rattle.clap.specs.Walk.{Row, Text, one_of}
use Rattle.clap.specs.declared.builder.value_parser.ValueParser.TheVariants as parser
use Rattle.clap.proofs.OnLiterals.{clap_on_literals}
use Rattle.cv_command_arguments.specs.Forms.{drill_app, drill_rows, seed_in, seed_of}
use Rattle.cv_command_arguments.specs.Simple.{number_in, rows_by}
use Rattle.cv_command_arguments.specs.Values.{drill_form, drill_values, values_of}
use Rattle.cv_command_arguments.proofs.Numbers.{number_accepted, number_within}
use Rattle.cv_command_arguments.proofs.Options.{and_then_same, and_then_twice, some_same}
use Rattle.cv_command_arguments.proofs.WalkLemmas.{at, by_values, given, nothing_after, positional, refuses_after_end, refuses_value, rows_from, shape_named, takes_after_end, takes_value, value_row, without_subcommands}

abbrev drill_shape : Shape
drill_shape = shape_named (codes "drill") (positional (codes "seed") 1 (parser.Unsigned 0 4294967295) ∷ [])

abbrev is_seed : Text → Bool
is_seed text = is_unsigned_in 0 4294967295 text

-- what is read of values, after those that were read
abbrev after_one : Text → List Text → Option (List Row)
after_one a [] = cond (is_seed a) (Some (value_row (codes "seed") a ∷ [])) None
after_one a (value ∷ values) = None

abbrev of_values : List Text → Option (List Row)
of_values [] = None
of_values (a ∷ values) = after_one a values

-- after one value
trail_one : (a : Text) (values : List Text) → rows_from drill_shape (at [] (given (codes "seed") a) 2 true) values ≡ after_one a values
unfolding clap_on_literals
trail_one a [] = go (is_seed a) refl
  where
    go : (accepted : Bool) → is_seed a ≡ accepted → rows_from drill_shape (at [] (given (codes "seed") a) 2 true) [] ≡ after_one a []
    go true e = rw e refl
    go false e = rw e refl
trail_one a (value ∷ values) = refuses_after_end drill_shape [] (given (codes "seed") a) 2 value values refl

one : (a : Text) (arguments : List Text) → rows_from drill_shape (at [] (given (codes "seed") a) 2 false) arguments ≡ option_and_then (after_one a) (values_of arguments)
unfolding clap_on_literals
one a = by_values drill_shape (λ name. refl) (λ x. refl) [] (given (codes "seed") a) 2 (after_one a) (trail_one a)
    (λ argument arguments is_value. refuses_value drill_shape [] (given (codes "seed") a) 2 false argument arguments is_value refl ∙ nothing_after (values_of arguments))

-- at the start
trail_none : (values : List Text) → rows_from drill_shape (at [] None 1 true) values ≡ of_values values
unfolding clap_on_literals
trail_none [] = refl
trail_none (a ∷ values) = takes_after_end drill_shape [] None 1 (at [] (given (codes "seed") a) 2 true) a values refl refl ∙ trail_one a values

none : (arguments : List Text) → rows_from drill_shape (at [] None 1 false) arguments ≡ option_and_then of_values (values_of arguments)
unfolding clap_on_literals
none = by_values drill_shape (λ name. refl) (λ x. refl) [] None 1 of_values trail_none
    (λ argument arguments is_value. takes_value drill_shape [] None 1 false (at [] (given (codes "seed") argument) 2 false) argument arguments is_value refl refl ∙ one argument arguments)

rows_of_values : (arguments : List Text) → drill_rows arguments ≡ option_and_then of_values (values_of arguments)
unfolding drill_app rows_by
rows_of_values arguments = rw (without_subcommands drill_shape (at [] None 1 false).held arguments) (none arguments)

accepted : (text : Text) → is_seed text ≡ is_some (number_in 0 4294967295 (Some text))
accepted text = sym (number_accepted 0 4294967295 text (omega arith))

-- what is read is a number if it is taken
seed_values : (values : List Text) → option_and_then seed_in (of_values values) ≡ drill_values values
seed_values [] = refl
seed_values (a ∷ []) = ap (λ test. option_and_then seed_in (cond test (Some (value_row (codes "seed") a ∷ [])) None)) (accepted a) ∙ go (number_in 0 4294967295 (Some a)) refl
  where
    go : (found : Option ℕ) → number_in 0 4294967295 (Some a) ≡ found → option_and_then seed_in (cond (is_some found) (Some (value_row (codes "seed") a ∷ [])) None) ≡ found
    go None e = refl
    go (Some n) e = e
seed_values (a ∷ b ∷ values) = refl

some_by_values : (values : List Text) → is_some (drill_values values) ≡ is_some (of_values values)
some_by_values [] = refl
some_by_values (a ∷ []) = go (is_some (number_in 0 4294967295 (Some a))) ∙ ap (λ test. is_some (cond test (Some (value_row (codes "seed") a ∷ [])) None)) (sym (accepted a))
  where
    go : (test : Bool) → test ≡ is_some (cond test (Some (value_row (codes "seed") a ∷ [])) None)
    go true = refl
    go false = refl
some_by_values (a ∷ b ∷ values) = refl

-- the seed, by the values
pub seed_form : (arguments : List Text) → seed_of arguments ≡ drill_form arguments
seed_form arguments =
    ap (option_and_then seed_in) (rows_of_values arguments)
    ∙ and_then_twice seed_in of_values (values_of arguments)
    ∙ and_then_same (λ values. option_and_then seed_in (of_values values)) drill_values seed_values (values_of arguments)

-- what is taken gives a seed
pub seed_taken : (arguments : List Text) → is_some (seed_of arguments) ≡ is_some (drill_rows arguments)
seed_taken arguments = ap is_some (seed_form arguments) ∙ some_same drill_values of_values some_by_values (values_of arguments) ∙ ap is_some (sym (rows_of_values arguments))

pub seed_given : (arguments : List Text) (rows : List Row) (seed : Option ℕ) → Some rows ≡ drill_rows arguments → seed ≡ seed_in rows → is_some seed ≡ is_some (drill_rows arguments)
seed_given arguments rows seed read e = ap is_some (e ∙ ap (option_and_then seed_in) read) ∙ seed_taken arguments

pub seed_within : (arguments : List Text) (n : ℕ) → seed_of arguments ≡ Some n → n ≤ 4294967295
seed_within arguments n e = go (drill_rows arguments) e
  where
    go : (found : Option (List Row)) → option_and_then seed_in found ≡ Some n → n ≤ 4294967295
    go None h = absurd (cc h)
    go (Some rows) h = (number_within 0 4294967295 (one_of (codes "seed") rows) n h).1
