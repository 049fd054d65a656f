-- What clap reads of the arguments of a command without arguments.
use Rattle.std.proofs.Common.{◌≡◌, Bool, true, false, List, [], ◌∷◌, refl, sym, ◌∙◌, ap}
use Rattle.std.specs.Prelude.{Option, Some, None, codes, is_some, option_and_then, option_map}
use Rattle.std.specs.Str.{bytes_eq}
use Rattle.clap.specs.Simple.{Shape}
use Rattle.clap.specs.Walk.{Row, Text}
use Rattle.clap.proofs.OnLiterals.{clap_on_literals}
use Rattle.cv_command_arguments.specs.Forms.{bare_app, takes_none}
use Rattle.cv_command_arguments.specs.Simple.{rows_by}
use Rattle.cv_command_arguments.specs.Values.{is_end, is_option, values_of}
use Rattle.cv_command_arguments.proofs.WalkLemmas.{at, by_values, nothing_after, refuses_after_end, refuses_value, rows_from, shape_named, without_subcommands}

abbrev bare_shape : Text → Shape
bare_shape name = shape_named name []

abbrev of_values : List Text → Option (List Row)
of_values [] = Some []
of_values (value ∷ values) = None

trail : (name : Text) (values : List Text) → rows_from (bare_shape name) (at [] None 1 true) values ≡ of_values values
unfolding clap_on_literals
trail name [] = refl
trail name (value ∷ values) = refuses_after_end (bare_shape name) [] None 1 value values refl

rows_of_values : (name : Text) (arguments : List Text) → rows_from (bare_shape name) (at [] None 1 false) arguments ≡ option_and_then of_values (values_of arguments)
unfolding clap_on_literals
rows_of_values name = by_values (bare_shape name) (λ other. refl) (λ x. refl) [] None 1 of_values (trail name)
    (λ argument arguments is_value. refuses_value (bare_shape name) [] None 1 false argument arguments is_value refl ∙ nothing_after (values_of arguments))

no_values : (arguments : List Text) → is_some (option_and_then of_values (values_of arguments)) ≡ is_end arguments
unfolding values_of
no_values [] = refl
no_values (argument ∷ arguments) = by_end arguments (bytes_eq argument (codes "--")) refl
  where
    more : (values : Option (List Text)) → is_some (option_and_then of_values (option_map (λ vs. argument ∷ vs) values)) ≡ false
    more None = refl
    more (Some vs) = refl

    by_option : (arguments : List Text) (option : Bool) → bytes_eq argument (codes "--") ≡ false → is_option argument ≡ option
        → is_some (option_and_then of_values (values_of (argument ∷ arguments))) ≡ false
    by_option arguments true other e = rw (other, e) refl
    by_option arguments false other e = rw (other, e) (more (values_of arguments))

    by_end : (arguments : List Text) (end : Bool) → bytes_eq argument (codes "--") ≡ end → is_some (option_and_then of_values (values_of (argument ∷ arguments))) ≡ is_end (argument ∷ arguments)
    by_end [] true e = rw e refl
    by_end (next ∷ arguments) true e = rw e refl
    by_end [] false e = by_option [] (is_option argument) e refl ∙ sym e
    by_end (next ∷ arguments) false e = by_option (next ∷ arguments) (is_option argument) e refl

rows_by_bare : (name : Text) (arguments : List Text) → rows_by (bare_app name) arguments ≡ option_and_then of_values (values_of arguments)
unfolding bare_app rows_by
rows_by_bare name arguments = rw (without_subcommands (bare_shape name) (at [] None 1 false).held arguments) (rows_of_values name arguments)

-- it takes none, or `--` alone
pub bare_form : (name : Text) (arguments : List Text) → takes_none name arguments ≡ is_end arguments
bare_form name arguments = ap is_some (rows_by_bare name arguments) ∙ no_values arguments
