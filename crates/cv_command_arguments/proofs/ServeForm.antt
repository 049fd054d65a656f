-- What the arguments of `serve` say of its workers.
use Rattle.std.proofs.Common.{◌≡◌, ℕ, ◌≤◌, Bool, true, false, List, [], ◌∷◌, refl, sym, ◌∙◌, ap, arith, cond}
use Rattle.std.specs.Prelude.{Option, Some, None, codes, is_some, option_map}
use Rattle.std.specs.Str.{bytes_eq}
use Rattle.clap.specs.Lexer.{long_of}
use Rattle.clap.specs.Walk.{Row, Text, one_of}
use Rattle.cv_command_arguments.specs.Forms.{serve_app, workers_in, workers_of}
use Rattle.cv_command_arguments.specs.Simple.{number_in, rows_by}
use Rattle.cv_command_arguments.specs.Values.{is_end, serve_form, workers_after, workers_last, workers_option}
use Rattle.cv_command_arguments.proofs.Numbers.{number_accepted, number_within}
use Rattle.cv_command_arguments.proofs.ServeWalk.{after_rows, is_workers, last_rows, option_rows, rows_by_serve, serve_rows, workers_row}

last_form : (value : Text) (arguments : List Text) → option_map workers_in (last_rows value arguments) ≡ workers_last value arguments
last_form value arguments = by_end (is_end arguments)
  where
    by_number : (found : Option ℕ) → number_in 1 8 (Some value) ≡ found → option_map workers_in (cond (is_some found) (Some (workers_row value)) None) ≡ option_map Some found
    by_number None e = refl
    by_number (Some n) e = ap Some e

    by_end : (end : Bool)
        → option_map workers_in (cond end (cond (is_workers value) (Some (workers_row value)) None) None) ≡ cond end (option_map Some (number_in 1 8 (Some value))) None
    by_end false = refl
    by_end true =
        ap (λ test. option_map workers_in (cond test (Some (workers_row value)) None)) (sym (number_accepted 1 8 value (omega arith)))
        ∙ by_number (number_in 1 8 (Some value)) refl

after_form : (value : Option Text) (arguments : List Text) → option_map workers_in (after_rows value arguments) ≡ workers_after value arguments
after_form (Some value) arguments = last_form value arguments
after_form None [] = refl
after_form None (value ∷ arguments) = last_form value arguments

option_form : (long : Option (Text × Option Text)) (arguments : List Text) → option_map workers_in (option_rows long arguments) ≡ workers_option long arguments
option_form None arguments = refl
option_form (Some p) arguments = go (bytes_eq (codes "workers") p.0)
  where
    go : (named : Bool) → option_map workers_in (cond named (after_rows p.1 arguments) None) ≡ cond named (workers_after p.1 arguments) None
    go true = after_form p.1 arguments
    go false = refl

rows_form : (arguments : List Text) → option_map workers_in (serve_rows arguments) ≡ serve_form arguments
rows_form [] = refl
rows_form (argument ∷ arguments) = go (is_end (argument ∷ arguments))
  where
    go : (end : Bool) → option_map workers_in (cond end (Some []) (option_rows (long_of argument) arguments)) ≡ cond end (Some None) (workers_option (long_of argument) arguments)
    go true = refl
    go false = option_form (long_of argument) arguments

pub workers_form : (arguments : List Text) → workers_of arguments ≡ serve_form arguments
workers_form arguments = ap (option_map workers_in) (rows_by_serve arguments) ∙ rows_form arguments

-- a number that is given is from 1 to 8
pub workers_within : (arguments : List Text) (n : ℕ) → workers_of arguments ≡ Some (Some n) → (1 ≤ n) × (n ≤ 8)
workers_within arguments n e = go (rows_by serve_app arguments) e
  where
    go : (found : Option (List Row)) → option_map workers_in found ≡ Some (Some n) → (1 ≤ n) × (n ≤ 8)
    go None h = absurd (cc h)
    go (Some rows) h = number_within 1 8 (one_of (codes "workers") rows) n (cc h)

-- without a number there is no option
last_given : (value : Text) (arguments : List Text) → workers_last value arguments ≡ Some None → ⊥
last_given value arguments h = go (is_end arguments) (number_in 1 8 (Some value)) h
  where
    go : (end : Bool) (found : Option ℕ) → cond end (option_map Some found) None ≡ Some None → ⊥
    go true None h = cc h
    go true (Some n) h = cc h
    go false found h = cc h

after_given : (value : Option Text) (arguments : List Text) → workers_after value arguments ≡ Some None → ⊥
after_given (Some value) arguments h = last_given value arguments h
after_given None [] h = cc h
after_given None (value ∷ arguments) h = last_given value arguments h

option_given : (long : Option (Text × Option Text)) (arguments : List Text) → workers_option long arguments ≡ Some None → ⊥
option_given None arguments h = cc h
option_given (Some p) arguments h = go (bytes_eq (codes "workers") p.0) h
  where
    go : (named : Bool) → cond named (workers_after p.1 arguments) None ≡ Some None → ⊥
    go true h = after_given p.1 arguments h
    go false h = cc h

form_given : (arguments : List Text) → serve_form arguments ≡ Some None → is_end arguments ≡ true
form_given [] h = refl
form_given (argument ∷ arguments) h = go (is_end (argument ∷ arguments)) h
  where
    go : (end : Bool) → cond end (Some None) (workers_option (long_of argument) arguments) ≡ Some None → end ≡ true
    go true h = refl
    go false h = absurd (option_given (long_of argument) arguments h)

pub workers_given : (arguments : List Text) → workers_of arguments ≡ Some None → is_end arguments ≡ true
workers_given arguments h = form_given arguments (sym (workers_form arguments) ∙ h)
