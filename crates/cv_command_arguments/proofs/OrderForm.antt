-- The arguments that `order` takes, and the comparison for which they ask.
use Rattle.std.proofs.Common.{◌≡◌, Bool, true, false, List, [], ◌∷◌, map, refl, sym, ◌∙◌, ap, cond}
use Rattle.std.specs.Prelude.{◌||◌, Option, Some, None, codes, is_some, option_and_then, option_map}
use Rattle.std.specs.List.{list_any}
use Rattle.std.specs.Str.{bytes_eq}
use Rattle.clap.specs.ValueTests.{accepts}
use Rattle.clap.specs.Simple.{App}
use Rattle.clap.specs.Walk.{Row, Text}
use Rattle.clap.specs.declared.builder.value_parser.ValueParser.TheVariants as parser
use Rattle.std.specs.Borrow.{Bor}
use Rattle.std.proofs.lemmas.Cmp.{nat_list_eq_equiv}
use Rattle.clap.proofs.WalkLemmas.{list_any-map}
use Rattle.cv_command_arguments.specs.Forms.{Names, comparison, comparison_in, comparison_of, names_of, order_app, order_rows, package_names, packages_named}
use Rattle.cv_command_arguments.specs.declared.order.Packages.{Packages}
use Rattle.cv_command_arguments.specs.declared.order.Packages.TheVariants.{Deb, Apk, Semver, Pypi}
use Rattle.cv_command_arguments.specs.Simple.{rows_by}
use Rattle.cv_command_arguments.specs.Versions.{comparison_by}
use Rattle.cv_command_arguments.specs.declared.order.Versions.{Versions}
use Rattle.cv_command_arguments.specs.Values.{order_form, order_values, values_of}
use Rattle.cv_command_arguments.proofs.Options.{and_then_same, and_then_twice, is_some-map, some_same}
use Rattle.cv_command_arguments.proofs.WalkLemmas.{nothing}
use Rattle.cv_command_arguments.proofs.OrderWalk.{after_two, of_values, rows_of_values}

any_of_four : (d a s p : Bool)
    → (d || (a || (s || (p || false)))) ≡ is_some (cond d (Some Deb) (cond a (Some Apk) (cond s (Some Semver) (cond p (Some Pypi) None))))
any_of_four true a s p = refl
any_of_four false true s p = refl
any_of_four false false true p = refl
any_of_four false false false true = refl
any_of_four false false false false = refl

-- clap accepts a text for the first argument if it names packages
pub accepted : (names : Names) (text : Text) → map (λ name. name.now) names.now ≡ package_names → accepts false (parser.Names names) text ≡ is_some (packages_named text)
accepted names text same =
    list_any-map (λ name. bytes_eq name text) (λ (name : Bor Text). name.now) names.now
    ∙ ap (list_any (λ name. bytes_eq name text)) same
    ∙ (λ i. nat_list_eq_equiv.symm (codes "deb") text i || (nat_list_eq_equiv.symm (codes "apk") text i
    || (nat_list_eq_equiv.symm (codes "semver") text i || (nat_list_eq_equiv.symm (codes "pypi") text i || false))))
    ∙ any_of_four (bytes_eq text (codes "deb")) (bytes_eq text (codes "apk")) (bytes_eq text (codes "semver")) (bytes_eq text (codes "pypi"))

same_values : (names : Names) → map (λ name. name.now) names.now ≡ package_names → (values : List Text) → of_values names values ≡ of_values (names_of package_names) values
same_values names same [] = refl
same_values names same (a ∷ []) = refl
same_values names same (a ∷ b ∷ values) =
    ap (λ named. cond named (after_two a b values) None) (accepted names a same ∙ sym (accepted (names_of package_names) a refl))

-- where the names lie makes no difference
pub any_place : (names : Names) → map (λ name. name.now) names.now ≡ package_names → (arguments : List Text) → rows_by (order_app names) arguments ≡ order_rows arguments
any_place names same arguments =
    rows_of_values names arguments
    ∙ and_then_same (of_values names) (of_values (names_of package_names)) (same_values names same) (values_of arguments)
    ∙ sym (rows_of_values (names_of package_names) arguments)

-- by the values: what is read is taken if the first one names packages
rows_values : (values : List Text) → option_and_then comparison_in (of_values (names_of package_names) values) ≡ order_values values
rows_values [] = refl
rows_values (a ∷ []) = refl
rows_values (a ∷ b ∷ []) = go (accepts false (parser.Names (names_of package_names)) a)
  where
    go : (named : Bool) → option_and_then comparison_in (cond named None None) ≡ None
    go true = refl
    go false = refl
rows_values (a ∷ b ∷ c ∷ []) = ap (λ named. option_and_then comparison_in (cond named (after_two a b (c ∷ [])) None)) (accepted (names_of package_names) a refl) ∙ go (packages_named a) refl
  where
    go : (packages : Option Packages) → packages_named a ≡ packages
        → option_and_then comparison_in (cond (is_some packages) (after_two a b (c ∷ [])) None) ≡ comparison packages (Some b) (Some c)
    go None e = refl
    go (Some packages) e = ap (λ found. comparison found (Some b) (Some c)) e
rows_values (a ∷ b ∷ c ∷ d ∷ values) = go (accepts false (parser.Names (names_of package_names)) a)
  where
    go : (named : Bool) → option_and_then comparison_in (cond named None None) ≡ None
    go true = refl
    go false = refl

-- the comparison, by the values
pub comparison_form : (arguments : List Text) → comparison_of arguments ≡ order_form arguments
comparison_form arguments =
    ap (option_and_then comparison_in) (rows_of_values (names_of package_names) arguments)
    ∙ and_then_twice comparison_in (of_values (names_of package_names)) (values_of arguments)
    ∙ and_then_same (λ values. option_and_then comparison_in (of_values (names_of package_names) values)) order_values rows_values (values_of arguments)

-- what is taken by values is a comparison
some_by_values : (values : List Text) → is_some (order_values values) ≡ is_some (of_values (names_of package_names) values)
some_by_values [] = refl
some_by_values (a ∷ []) = refl
some_by_values (a ∷ b ∷ []) = go (accepts false (parser.Names (names_of package_names)) a)
  where
    go : (named : Bool) → false ≡ is_some (cond named (nothing []) None)
    go true = refl
    go false = refl
some_by_values (a ∷ b ∷ c ∷ []) = go (packages_named a) ∙ ap (λ named. is_some (cond named (after_two a b (c ∷ [])) None)) (sym (accepted (names_of package_names) a refl))
  where
    go : (packages : Option Packages) → is_some (comparison packages (Some b) (Some c)) ≡ is_some (cond (is_some packages) (after_two a b (c ∷ [])) None)
    go None = refl
    go (Some packages) = refl
some_by_values (a ∷ b ∷ c ∷ d ∷ values) = go (accepts false (parser.Names (names_of package_names)) a)
  where
    go : (named : Bool) → false ≡ is_some (cond named (nothing []) None)
    go true = refl
    go false = refl

pub comparison_taken : (arguments : List Text) → is_some (comparison_of arguments) ≡ is_some (order_rows arguments)
comparison_taken arguments =
    ap is_some (comparison_form arguments)
    ∙ some_same order_values (of_values (names_of package_names)) some_by_values (values_of arguments)
    ∙ ap is_some (sym (rows_of_values (names_of package_names) arguments))

-- what the command reads with the names at their place
pub read_order : (app : App) (names : Names) (arguments : List Text) (found : Option (List Row))
    → app ≡ order_app names → map (λ name. name.now) names.now ≡ package_names → found ≡ rows_by app arguments → found ≡ order_rows arguments
read_order app names arguments found is_app same read = read ∙ ap (λ a. rows_by a arguments) is_app ∙ any_place names same arguments

-- versions are given for all arguments that are taken
pub versions_given : (arguments : List Text) (rows : List Row) (versions : Option Versions) → Some rows ≡ order_rows arguments → option_map comparison_by versions ≡ comparison_in rows
    → is_some versions ≡ is_some (order_rows arguments)
versions_given arguments rows versions read e =
    is_some-map comparison_by versions ∙ ap is_some (e ∙ ap (option_and_then comparison_in) read) ∙ comparison_taken arguments
