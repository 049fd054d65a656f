-- What clap reads of the arguments of `serve`.
use Rattle.std.proofs.Common.{◌≡◌, ℕ, Bool, true, false, List, [], ◌∷◌, length, refl, sym, ◌∙◌, ap, subst, cond}
use Rattle.std.specs.Prelude.{◌==◌, Option, Some, None, codes, is_some, nat_lt, option_and_then, slice_get}
use Rattle.std.specs.Str.{bytes_eq, chars}
use Rattle.std.specs.Cmp.Lexicographic.{same_text}
use Rattle.std.proofs.lemmas.Bool.{eqb-true}
use Rattle.clap.specs.Faults.{turn_fault}
use Rattle.clap.specs.Kinds.{Kinds, or_else}
use Rattle.clap.specs.Lexer.{long_of, short_of}
use Rattle.clap.specs.Simple.{Shape, new_rule}
use Rattle.clap.specs.ValueTests.{is_unsigned_in}
use Rattle.clap.specs.Walk.{Held, Row, Rule, Text, Waiting, Walk, idle, option, positional, walked}
use Rattle.clap.specs.declared.builder.action.ArgAction.TheVariants.{Set}
use Rattle.clap.specs.declared.builder.value_parser.ValueParser.TheVariants as parser
use Rattle.clap.specs.declared.error.kind.ErrorKind.{ErrorKind}
use Rattle.clap.proofs.OnLiterals.{clap_on_literals}
use Rattle.cv_command_arguments.specs.Forms.{serve_app}
use Rattle.cv_command_arguments.specs.Simple.{is_quiet, rows_by}
use Rattle.cv_command_arguments.specs.Values.{is_end, is_option}
use Rattle.cv_command_arguments.proofs.WalkLemmas.{given, goes_on, rows_from, shape_named, stops, value_row, without_subcommands}

-- the option, as clap fills it in
abbrev workers : Rule
workers = record (new_rule (codes "workers")) {
  long = Some (codes "workers");
  action = Some Set;
  range = Some (record { start_inclusive = 1; end_inclusive = 1 });
  parser = Some (parser.Unsigned 1 8);
}

abbrev serve_shape : Shape
serve_shape = shape_named (codes "serve") (workers ∷ [])

abbrev pub is_workers : Text → Bool
is_workers text = is_unsigned_in 1 8 text

abbrev held : List Row → Option (Text × List Text) → Held
held rows pending = record { rows = rows; pending = pending; skip = 0 }

abbrev place : List Row → Option (Text × List Text) → Waiting → Bool → Walk
place rows pending waiting is_trailing = record { held = held rows pending; waiting = waiting; position = 1; is_trailing = is_trailing; stopped = None }

abbrev waits : Waiting
waits = option (codes "workers")

abbrev no_value : Option (Text × List Text)
no_value = Some (codes "workers", [])

abbrev pub workers_row : Text → List Row
workers_row text = value_row (codes "workers") text ∷ []

-- ---- values that are no numbers

minus_refused : (xs : List ℕ) → is_workers (45 ∷ xs) ≡ false
minus_refused xs = go (nat_lt 0 (length (45 ∷ xs))) refl
  where
    go : (b : Bool) → nat_lt 0 (length (45 ∷ xs)) ≡ b → is_workers (45 ∷ xs) ≡ false
    go true e = rw e refl
    go false e = rw e refl

-- an option by its look is no number
option_no_number : (text : Text) → is_option text ≡ true → is_workers text ≡ false
unfolding chars
option_no_number [] h = absurd (cc h)
option_no_number (x ∷ xs) h = go (x == 45) refl
  where
    go : (b : Bool) → (x == 45) ≡ b → is_workers (x ∷ xs) ≡ false
    go true e = subst (λ y. is_workers (y ∷ xs) ≡ false) (sym (eqb-true _ _ e)) (minus_refused xs)
    go false e = absurd (cc (rw e at h))

end_no_number : (text : Text) → bytes_eq text (codes "--") ≡ true → is_workers text ≡ false
end_no_number text e = subst (λ t. is_workers t ≡ false) (sym (same_text text (codes "--") (sym e))) (minus_refused (45 ∷ []))

end_no_long : (text : Text) → bytes_eq text (codes "--") ≡ true → long_of text ≡ None
end_no_long text e = subst (λ t. long_of t ≡ None) (sym (same_text text (codes "--") (sym e))) refl

-- ---- one argument

loud_first : (kinds rest : Kinds) → is_quiet kinds ≡ false → is_quiet (or_else kinds rest) ≡ false
loud_first [] rest e = absurd (cc e)
loud_first (k ∷ ks) rest e = refl

loud_last : (kinds : Kinds) (k : ErrorKind) (rest : Kinds) → is_quiet (or_else kinds (k ∷ rest)) ≡ false
loud_last [] k rest = refl
loud_last (j ∷ js) k rest = refl

-- after `--` nothing is taken
trail : (rows : List Row) (pending : Option (Text × List Text)) (waiting : Waiting) (argument : Text) (arguments : List Text)
    → rows_from serve_shape (place rows pending waiting true) (argument ∷ arguments) ≡ None
unfolding clap_on_literals
trail rows pending waiting argument arguments = stops serve_shape (place rows pending waiting true) argument arguments refl

end_met : (rows : List Row) (pending : Option (Text × List Text)) (waiting : Waiting) (argument : Text) → bytes_eq argument (codes "--") ≡ true
    → (turn_fault serve_shape [] (place rows pending waiting false) argument ≡ []) × (walked serve_shape.rules [] (place rows pending waiting false) argument ≡ place rows pending waiting true)
unfolding walked
end_met rows pending idle argument e = (rw e refl, rw e refl)
end_met rows pending (option id) argument e = (rw e refl, rw e refl)
end_met rows pending positional argument e = (rw e refl, rw e refl)

after_end : (rows : List Row) (pending : Option (Text × List Text)) (waiting : Waiting) (argument : Text) (arguments : List Text) → bytes_eq argument (codes "--") ≡ true
    → rows_from serve_shape (place rows pending waiting false) (argument ∷ arguments) ≡ rows_from serve_shape (place rows pending waiting true) arguments
after_end rows pending waiting argument arguments e =
    let met = end_met rows pending waiting argument e in
    goes_on serve_shape (place rows pending waiting false) argument arguments met.0 ∙ ap (λ w. rows_from serve_shape w arguments) met.1

abbrev is_named : Option (Text × Option Text) → Bool
is_named None = false
is_named (Some p) = bytes_eq (codes "workers") p.0

-- where nothing waits for a value, an argument that is neither `--` nor the option is refused
other_refused : (rows : List Row) (pending : Option (Text × List Text)) (argument : Text) → bytes_eq argument (codes "--") ≡ false → is_named (long_of argument) ≡ false
    → is_quiet (turn_fault serve_shape [] (place rows pending idle false) argument) ≡ false
unfolding clap_on_literals
other_refused rows pending argument other unnamed = by_long (long_of argument) refl
  where
    by_flag : (flags : Text) (first : Option ℕ) → long_of argument ≡ None → short_of argument ≡ Some flags → slice_get (chars flags) 0 ≡ first
        → is_quiet (turn_fault serve_shape [] (place rows pending idle false) argument) ≡ false
    by_flag [] first long short e = rw (other, long, short) refl
    by_flag (y ∷ ys) None long short e = rw (other, long, short, e) refl
    by_flag (y ∷ ys) (Some x) long short e = rw (other, long, short, e) refl

    by_short : (flags : Option Text) → long_of argument ≡ None → short_of argument ≡ flags → is_quiet (turn_fault serve_shape [] (place rows pending idle false) argument) ≡ false
    by_short None long short = rw (other, long, short) refl
    by_short (Some flags) long short = by_flag flags (slice_get (chars flags) 0) long short refl

    by_long : (long : Option (Text × Option Text)) → long_of argument ≡ long → is_quiet (turn_fault serve_shape [] (place rows pending idle false) argument) ≡ false
    by_long (Some p) e = let unlike : bytes_eq (codes "workers") p.0 ≡ false = rw e at unnamed in rw (other, e, unlike) refl
    by_long None e = by_short (short_of argument) e refl

-- where the option waits for its value, another option is refused
option_refused : (rows : List Row) (argument : Text) → bytes_eq argument (codes "--") ≡ false → is_option argument ≡ true
    → is_quiet (turn_fault serve_shape [] (place rows no_value waits false) argument) ≡ false
unfolding clap_on_literals
option_refused rows argument other is_one = by_long (long_of argument) refl
  where
    by_flag : (flags : Text) (first : Option ℕ) → long_of argument ≡ None → short_of argument ≡ Some flags → slice_get (chars flags) 0 ≡ first → is_some first ≡ true
        → is_quiet (turn_fault serve_shape [] (place rows no_value waits false) argument) ≡ false
    by_flag flags None long short e h = absurd (cc h)
    by_flag [] (Some x) long short e h = absurd (cc e)
    by_flag (y ∷ ys) (Some x) long short e h = rw (other, long, short, e) refl

    by_short : (flags : Option Text) → long_of argument ≡ None → short_of argument ≡ flags → is_some (option_and_then (λ fs. slice_get (chars fs) 0) flags) ≡ true
        → is_quiet (turn_fault serve_shape [] (place rows no_value waits false) argument) ≡ false
    by_short None long short h = absurd (cc h)
    by_short (Some flags) long short h = by_flag flags (slice_get (chars flags) 0) long short refl h

    by_name : (p : Text × Option Text) (named : Bool) (value : Option Text) → long_of argument ≡ Some p → bytes_eq (codes "workers") p.0 ≡ named → p.1 ≡ value
        → is_quiet (turn_fault serve_shape [] (place rows no_value waits false) argument) ≡ false
    by_name p false value e n v = rw (other, e, n) refl
    by_name p true None e n v = rw (other, e, n, v) refl
    by_name p true (Some text) e n v = rw (other, e, n, v) refl

    by_long : (long : Option (Text × Option Text)) → long_of argument ≡ long → is_quiet (turn_fault serve_shape [] (place rows no_value waits false) argument) ≡ false
    by_long (Some p) e = by_name p (bytes_eq (codes "workers") p.0) p.1 e refl refl
    by_long None e = by_short (short_of argument) e refl (rw e at is_one)

-- and another argument is its value
abbrev IsPushed : List Row → Text → Type 0
IsPushed rows argument =
    (turn_fault serve_shape [] (place rows no_value waits false) argument ≡ [])
    × (walked serve_shape.rules [] (place rows no_value waits false) argument ≡ place rows (given (codes "workers") argument) idle false)

value_pushed : (rows : List Row) (argument : Text) → bytes_eq argument (codes "--") ≡ false → is_option argument ≡ false → IsPushed rows argument
unfolding clap_on_literals
value_pushed rows argument other plain = by_long (long_of argument) refl
  where
    by_flag : (flags : Text) (first : Option ℕ) → long_of argument ≡ None → short_of argument ≡ Some flags → slice_get (chars flags) 0 ≡ first → is_some first ≡ false → IsPushed rows argument
    by_flag flags (Some x) long short e h = absurd (cc h)
    by_flag [] None long short e h = (rw (other, long, short) refl, rw (other, long, short) refl)
    by_flag (y ∷ ys) None long short e h = (rw (other, long, short, e) refl, rw (other, long, short, e) refl)

    by_short : (flags : Option Text) → long_of argument ≡ None → short_of argument ≡ flags → is_some (option_and_then (λ fs. slice_get (chars fs) 0) flags) ≡ false → IsPushed rows argument
    by_short None long short h = (rw (other, long, short) refl, rw (other, long, short) refl)
    by_short (Some flags) long short h = by_flag flags (slice_get (chars flags) 0) long short refl h

    by_long : (long : Option (Text × Option Text)) → long_of argument ≡ long → IsPushed rows argument
    by_long (Some p) e = absurd (cc (rw e at plain))
    by_long None e = by_short (short_of argument) e refl (rw e at plain)

-- ---- a second use of the option

-- it is refused once its value is there
used_again : (v w : Text) (is_trailing : Bool) (arguments : List Text)
    → rows_from serve_shape (place (workers_row v) (given (codes "workers") w) idle is_trailing) arguments ≡ None
unfolding clap_on_literals
used_again v w is_trailing [] = refl
used_again v w true (argument ∷ arguments) = trail (workers_row v) (given (codes "workers") w) idle argument arguments
used_again v w false (argument ∷ arguments) = by_end (bytes_eq argument (codes "--")) refl (used_again v w true arguments)
  where
    by_name : (p : Text × Option Text) (value : Option Text) → bytes_eq argument (codes "--") ≡ false → long_of argument ≡ Some p → bytes_eq (codes "workers") p.0 ≡ true → p.1 ≡ value
        → is_quiet (turn_fault serve_shape [] (place (workers_row v) (given (codes "workers") w) idle false) argument) ≡ false
    by_name p None other e n x = rw (other, e, n, x) refl
    by_name p (Some text) other e n x = rw (other, e, n, x) refl

    by_long : (long : Option (Text × Option Text)) (named : Bool) → bytes_eq argument (codes "--") ≡ false → long_of argument ≡ long → is_named long ≡ named
        → is_quiet (turn_fault serve_shape [] (place (workers_row v) (given (codes "workers") w) idle false) argument) ≡ false
    by_long long false other e n = other_refused (workers_row v) (given (codes "workers") w) argument other (ap is_named e ∙ n)
    by_long None true other e n = absurd (cc n)
    by_long (Some p) true other e n = by_name p p.1 other e n refl

    by_end : (end : Bool) → bytes_eq argument (codes "--") ≡ end → rows_from serve_shape (place (workers_row v) (given (codes "workers") w) idle true) arguments ≡ None
        → rows_from serve_shape (place (workers_row v) (given (codes "workers") w) idle false) (argument ∷ arguments) ≡ None
    by_end true e after = after_end (workers_row v) (given (codes "workers") w) idle argument arguments e ∙ after
    by_end false e after =
        stops serve_shape (place (workers_row v) (given (codes "workers") w) idle false) argument arguments (by_long (long_of argument) (is_named (long_of argument)) e refl refl)

-- and where it waits for its value
waits_again : (v : Text) (is_trailing : Bool) (arguments : List Text) → rows_from serve_shape (place (workers_row v) no_value waits is_trailing) arguments ≡ None
unfolding clap_on_literals
waits_again v is_trailing [] = refl
waits_again v true (argument ∷ arguments) = trail (workers_row v) no_value waits argument arguments
waits_again v false (argument ∷ arguments) = by_end (bytes_eq argument (codes "--")) refl (waits_again v true arguments)
  where
    by_option : (is_one : Bool) → bytes_eq argument (codes "--") ≡ false → is_option argument ≡ is_one
        → rows_from serve_shape (place (workers_row v) no_value waits false) (argument ∷ arguments) ≡ None
    by_option true other e = stops serve_shape (place (workers_row v) no_value waits false) argument arguments (option_refused (workers_row v) argument other e)
    by_option false other e =
        let pushed = value_pushed (workers_row v) argument other e in
        goes_on serve_shape (place (workers_row v) no_value waits false) argument arguments pushed.0
        ∙ ap (λ w. rows_from serve_shape w arguments) pushed.1 ∙ used_again v argument false arguments

    by_end : (end : Bool) → bytes_eq argument (codes "--") ≡ end → rows_from serve_shape (place (workers_row v) no_value waits true) arguments ≡ None
        → rows_from serve_shape (place (workers_row v) no_value waits false) (argument ∷ arguments) ≡ None
    by_end true e after = after_end (workers_row v) no_value waits argument arguments e ∙ after
    by_end false e after = by_option (is_option argument) e refl

-- ---- what is read, by cases

-- a value, and nothing after it
abbrev pub last_rows : Text → List Text → Option (List Row)
last_rows value arguments = cond (is_end arguments) (cond (is_workers value) (Some (workers_row value)) None) None

abbrev pub after_rows : Option Text → List Text → Option (List Row)
after_rows (Some value) arguments = last_rows value arguments
after_rows None [] = None
after_rows None (value ∷ arguments) = last_rows value arguments

abbrev pub option_rows : Option (Text × Option Text) → List Text → Option (List Row)
option_rows (Some (name, value)) arguments = cond (bytes_eq (codes "workers") name) (after_rows value arguments) None
option_rows None arguments = None

abbrev pub serve_rows : List Text → Option (List Row)
serve_rows [] = Some []
serve_rows (argument ∷ arguments) = cond (is_end (argument ∷ arguments)) (Some []) (option_rows (long_of argument) arguments)

-- an argument that is not `--` is no end
not_end : (argument : Text) (arguments : List Text) → bytes_eq argument (codes "--") ≡ false → is_end (argument ∷ arguments) ≡ false
not_end argument [] e = e
not_end argument (next ∷ arguments) e = refl

-- ---- with a value that was used

used_trail : (v : Text) (argument : Text) (arguments : List Text) → bytes_eq argument (codes "--") ≡ true
    → rows_from serve_shape (place (workers_row v) None idle true) arguments ≡ cond (is_end (argument ∷ arguments)) (Some (workers_row v)) None
unfolding clap_on_literals
used_trail v argument [] e = rw e refl
used_trail v argument (next ∷ arguments) e = trail (workers_row v) None idle next arguments

used : (v : Text) (arguments : List Text) → rows_from serve_shape (place (workers_row v) None idle false) arguments ≡ cond (is_end arguments) (Some (workers_row v)) None
unfolding clap_on_literals
used v [] = refl
used v (argument ∷ arguments) = by_end (bytes_eq argument (codes "--")) refl
  where
    by_name : (p : Text × Option Text) (value : Option Text) → bytes_eq argument (codes "--") ≡ false → long_of argument ≡ Some p → bytes_eq (codes "workers") p.0 ≡ true → p.1 ≡ value
        → rows_from serve_shape (place (workers_row v) None idle false) (argument ∷ arguments) ≡ None
    by_name p None other e n x =
        goes_on serve_shape (place (workers_row v) None idle false) argument arguments (rw (other, e, n, x) refl)
        ∙ ap (λ w. rows_from serve_shape w arguments) (rw (other, e, n, x) refl) ∙ waits_again v false arguments
    by_name p (Some text) other e n x = stops serve_shape (place (workers_row v) None idle false) argument arguments (rw (other, e, n, x) refl)

    by_long : (long : Option (Text × Option Text)) (named : Bool) → bytes_eq argument (codes "--") ≡ false → long_of argument ≡ long → is_named long ≡ named
        → rows_from serve_shape (place (workers_row v) None idle false) (argument ∷ arguments) ≡ None
    by_long long false other e n = stops serve_shape (place (workers_row v) None idle false) argument arguments (other_refused (workers_row v) None argument other (ap is_named e ∙ n))
    by_long None true other e n = absurd (cc n)
    by_long (Some p) true other e n = by_name p p.1 other e n refl

    by_end : (end : Bool) → bytes_eq argument (codes "--") ≡ end
        → rows_from serve_shape (place (workers_row v) None idle false) (argument ∷ arguments) ≡ cond (is_end (argument ∷ arguments)) (Some (workers_row v)) None
    by_end true e = after_end (workers_row v) None idle argument arguments e ∙ used_trail v argument arguments e
    by_end false e = by_long (long_of argument) (is_named (long_of argument)) e refl refl ∙ rw (not_end argument arguments e) refl

-- ---- with a value that waits to be used

kept_last : (v : Text) (is_trailing : Bool) → rows_from serve_shape (place [] (given (codes "workers") v) idle is_trailing) [] ≡ cond (is_workers v) (Some (workers_row v)) None
unfolding clap_on_literals
kept_last v is_trailing = go (is_workers v) refl
  where
    go : (b : Bool) → is_workers v ≡ b → rows_from serve_shape (place [] (given (codes "workers") v) idle is_trailing) [] ≡ cond b (Some (workers_row v)) None
    go true e = rw e refl
    go false e = rw e refl

kept_trail : (v : Text) (argument : Text) (arguments : List Text) → bytes_eq argument (codes "--") ≡ true
    → rows_from serve_shape (place [] (given (codes "workers") v) idle true) arguments ≡ last_rows v (argument ∷ arguments)
kept_trail v argument [] e = kept_last v true ∙ rw e refl
kept_trail v argument (next ∷ arguments) e = trail [] (given (codes "workers") v) idle next arguments

kept : (v : Text) (arguments : List Text) → rows_from serve_shape (place [] (given (codes "workers") v) idle false) arguments ≡ last_rows v arguments
unfolding clap_on_literals
kept v [] = kept_last v false
kept v (argument ∷ arguments) = by_end (bytes_eq argument (codes "--")) refl
  where
    by_name : (p : Text × Option Text) (value : Option Text) (number : Bool) → bytes_eq argument (codes "--") ≡ false → long_of argument ≡ Some p → bytes_eq (codes "workers") p.0 ≡ true → p.1 ≡ value
        → is_workers v ≡ number → rows_from serve_shape (place [] (given (codes "workers") v) idle false) (argument ∷ arguments) ≡ None
    by_name p None true other e n x b =
        goes_on serve_shape (place [] (given (codes "workers") v) idle false) argument arguments (rw (other, e, n, x, b) refl)
        ∙ ap (λ w. rows_from serve_shape w arguments) (rw (other, e, n, x) refl) ∙ waits_again v false arguments
    by_name p None false other e n x b = stops serve_shape (place [] (given (codes "workers") v) idle false) argument arguments (rw (other, e, n, x, b) refl)
    by_name p (Some text) true other e n x b = stops serve_shape (place [] (given (codes "workers") v) idle false) argument arguments (rw (other, e, n, x, b) refl)
    by_name p (Some text) false other e n x b = stops serve_shape (place [] (given (codes "workers") v) idle false) argument arguments (rw (other, e, n, x, b) refl)

    by_long : (long : Option (Text × Option Text)) (named : Bool) → bytes_eq argument (codes "--") ≡ false → long_of argument ≡ long → is_named long ≡ named
        → rows_from serve_shape (place [] (given (codes "workers") v) idle false) (argument ∷ arguments) ≡ None
    by_long long false other e n =
        stops serve_shape (place [] (given (codes "workers") v) idle false) argument arguments (other_refused [] (given (codes "workers") v) argument other (ap is_named e ∙ n))
    by_long None true other e n = absurd (cc n)
    by_long (Some p) true other e n = by_name p p.1 (is_workers v) other e n refl refl

    by_end : (end : Bool) → bytes_eq argument (codes "--") ≡ end
        → rows_from serve_shape (place [] (given (codes "workers") v) idle false) (argument ∷ arguments) ≡ last_rows v (argument ∷ arguments)
    by_end true e = after_end [] (given (codes "workers") v) idle argument arguments e ∙ kept_trail v argument arguments e
    by_end false e = by_long (long_of argument) (is_named (long_of argument)) e refl refl ∙ rw (not_end argument arguments e) refl

-- ---- where the option waits for its value

no_rows : (value : Text) (arguments : List Text) → is_workers value ≡ false → None ≡ last_rows value arguments
no_rows value arguments e = go (is_end arguments) ∙ ap (λ b. cond (is_end arguments) (cond b (Some (workers_row value)) None) None) (sym e)
  where
    go : (b : Bool) → None ≡ (cond b (cond false (Some (workers_row value)) None) None)
    go true = refl
    go false = refl

waited : (arguments : List Text) → rows_from serve_shape (place [] no_value waits false) arguments ≡ after_rows None arguments
unfolding clap_on_literals
waited [] = refl
waited (argument ∷ arguments) = by_end (bytes_eq argument (codes "--")) refl
  where
    after : (arguments : List Text) → rows_from serve_shape (place [] no_value waits true) arguments ≡ None
    after [] = refl
    after (next ∷ arguments) = trail [] no_value waits next arguments

    by_option : (is_one : Bool) → bytes_eq argument (codes "--") ≡ false → is_option argument ≡ is_one
        → rows_from serve_shape (place [] no_value waits false) (argument ∷ arguments) ≡ last_rows argument arguments
    by_option true other e =
        stops serve_shape (place [] no_value waits false) argument arguments (option_refused [] argument other e) ∙ no_rows argument arguments (option_no_number argument e)
    by_option false other e =
        let pushed = value_pushed [] argument other e in
        goes_on serve_shape (place [] no_value waits false) argument arguments pushed.0 ∙ ap (λ w. rows_from serve_shape w arguments) pushed.1 ∙ kept argument arguments

    by_end : (end : Bool) → bytes_eq argument (codes "--") ≡ end → rows_from serve_shape (place [] no_value waits false) (argument ∷ arguments) ≡ last_rows argument arguments
    by_end true e = after_end [] no_value waits argument arguments e ∙ after arguments ∙ no_rows argument arguments (end_no_number argument e)
    by_end false e = by_option (is_option argument) e refl

-- ---- at the start

start_trail : (argument : Text) (arguments : List Text) → bytes_eq argument (codes "--") ≡ true
    → rows_from serve_shape (place [] None idle true) arguments ≡ serve_rows (argument ∷ arguments)
unfolding clap_on_literals
start_trail argument [] e = rw e refl
start_trail argument (next ∷ arguments) e = trail [] None idle next arguments ∙ rw (end_no_long argument e) refl

start : (arguments : List Text) → rows_from serve_shape (place [] None idle false) arguments ≡ serve_rows arguments
unfolding clap_on_literals
start [] = refl
start (argument ∷ arguments) = by_end (bytes_eq argument (codes "--")) refl
  where
    last_used : (text : Text) (b : Bool) → is_workers text ≡ b → cond b (cond (is_end arguments) (Some (workers_row text)) None) None ≡ last_rows text arguments
    last_used text b e = go (is_end arguments) b ∙ ap (λ t. cond (is_end arguments) (cond t (Some (workers_row text)) None) None) (sym e)
      where
        go : (end b : Bool) → cond b (cond end (Some (workers_row text)) None) None ≡ cond end (cond b (Some (workers_row text)) None) None
        go true true = refl
        go true false = refl
        go false true = refl
        go false false = refl

    by_name : (p : Text × Option Text) (value : Option Text) → bytes_eq argument (codes "--") ≡ false → long_of argument ≡ Some p → bytes_eq (codes "workers") p.0 ≡ true → p.1 ≡ value
        → rows_from serve_shape (place [] None idle false) (argument ∷ arguments) ≡ after_rows value arguments
    by_name p None other e n x =
        goes_on serve_shape (place [] None idle false) argument arguments (rw (other, e, n, x) refl)
        ∙ ap (λ w. rows_from serve_shape w arguments) (rw (other, e, n, x) refl) ∙ waited arguments
    by_name p (Some text) other e n x = by_number (is_workers text) refl
      where
        by_number : (b : Bool) → is_workers text ≡ b → rows_from serve_shape (place [] None idle false) (argument ∷ arguments) ≡ last_rows text arguments
        by_number true b =
            goes_on serve_shape (place [] None idle false) argument arguments (rw (other, e, n, x, b) refl)
            ∙ ap (λ w. rows_from serve_shape w arguments) (rw (other, e, n, x) refl) ∙ used text arguments ∙ last_used text true b
        by_number false b = stops serve_shape (place [] None idle false) argument arguments (rw (other, e, n, x, b) refl) ∙ last_used text false b

    by_long : (long : Option (Text × Option Text)) (named : Bool) → bytes_eq argument (codes "--") ≡ false → long_of argument ≡ long → is_named long ≡ named
        → rows_from serve_shape (place [] None idle false) (argument ∷ arguments) ≡ option_rows long arguments
    by_long None false other e n = stops serve_shape (place [] None idle false) argument arguments (other_refused [] None argument other (ap is_named e))
    by_long (Some p) false other e n = stops serve_shape (place [] None idle false) argument arguments (other_refused [] None argument other (ap is_named e ∙ n)) ∙ rw n refl
    by_long None true other e n = absurd (cc n)
    by_long (Some p) true other e n = by_name p p.1 other e n refl ∙ rw n refl

    by_end : (end : Bool) → bytes_eq argument (codes "--") ≡ end → rows_from serve_shape (place [] None idle false) (argument ∷ arguments) ≡ serve_rows (argument ∷ arguments)
    by_end true e = after_end [] None idle argument arguments e ∙ start_trail argument arguments e
    by_end false e = by_long (long_of argument) (is_named (long_of argument)) e refl refl ∙ rw (not_end argument arguments e) refl

-- clap's meaning of the command
pub rows_by_serve : (arguments : List Text) → rows_by serve_app arguments ≡ serve_rows arguments
unfolding serve_app rows_by
rows_by_serve arguments = rw (without_subcommands serve_shape (held [] None) arguments) (start arguments)
