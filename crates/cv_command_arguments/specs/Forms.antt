-- The arguments after the name of each command (defined by this project): the simple commands that read them, and what is read.
use Rattle.std.specs.Prelude.{ℕ, Bool, true, is_some, if◌then◌else◌, List, [], ◌∷◌, map, codes, Option, Some, None, option_and_then}
use Rattle.std.specs.Borrow.{Bor}
use Rattle.std.specs.Option.{option_map}
use Rattle.std.specs.Str.{bytes_eq}
use Rattle.clap.specs.Simple.{App, new_rule, with_rule}
use Rattle.clap.specs.Walk.{Row, Rule, Text, first_of, one_of}
use Rattle.clap.specs.declared.builder.value_parser.ValueParser.TheVariants as parser
use Rattle.cv_command_arguments.specs.Simple.{app_named, number_in, rows_by}
use Rattle.cv_command_arguments.specs.declared.order.Packages.{Packages}
use Rattle.cv_command_arguments.specs.declared.order.Packages.TheVariants.{Deb, Apk, Semver, Pypi}

-- `scan`, `sbom` and `scan-list` have no arguments
unfoldable pub bare_app : Text → App
bare_app name = app_named name

-- the arguments of a command without arguments are those that it takes
abbrev pub takes_none : Text → List Text → Bool
takes_none name arguments = is_some (rows_by (bare_app name) arguments)

-- the option `--workers` with a number from 1 to 8
abbrev pub workers_rule : Rule
workers_rule = record (new_rule (codes "workers")) { long = Some (codes "workers"); parser = Some (parser.Unsigned 1 8) }

-- `serve` has this option
unfoldable pub serve_app : App
serve_app = with_rule (app_named (codes "serve")) workers_rule

-- the number of workers, if the option is given
abbrev pub workers_in : List Row → Option ℕ
workers_in rows = number_in 1 8 (one_of (codes "workers") rows)

-- what the arguments of a service say of its workers, if its command takes them
abbrev pub workers_of : List Text → Option (Option ℕ)
workers_of arguments = option_map workers_in (rows_by serve_app arguments)

-- a required argument without a name of its own
abbrev pub required_rule : Text → Rule
required_rule id = record (new_rule id) { required = true }

-- the packages by their names
abbrev pub name_of : Packages → Text
name_of Deb = codes "deb"
name_of Apk = codes "apk"
name_of Semver = codes "semver"
name_of Pypi = codes "pypi"

-- the names that the first argument of `order` may be
abbrev pub package_names : List Text
package_names = map name_of (Deb ∷ Apk ∷ Semver ∷ Pypi ∷ [])

-- a list of texts in memory, as clap sees it
abbrev pub Names : Type 0
Names = Bor (List (Bor Text))

-- these texts, at one place of memory; a law says that clap reads every list of the same texts alike
abbrev pub names_of : List Text → Names
names_of texts = record { ref_ptr = (0, 0); now = map (λ text. record { ref_ptr = (0, 0); now = text }) texts }

-- the first argument of `order`, which is one of these names
abbrev pub packages_rule : Names → Rule
packages_rule names = record (required_rule (codes "packages")) { parser = Some (parser.Names names) }

-- `order` has three required arguments, of which the first is one of these names
unfoldable pub order_app : Names → App
order_app names = with_rule (with_rule (with_rule (app_named (codes "order")) (packages_rule names)) (required_rule (codes "first"))) (required_rule (codes "second"))

-- what `order` reads of its arguments, if they are taken
abbrev pub order_rows : List Text → Option (List Row)
order_rows arguments = rows_by (order_app (names_of package_names)) arguments

-- two versions that are compared, and the packages that have such versions
pub record Comparison : Type 0 where
  pub packages : Packages
  pub first : Text
  pub second : Text

-- the packages of a name
abbrev pub packages_named : Text → Option Packages
packages_named name =
    if bytes_eq name (codes "deb") then Some Deb
    else (if bytes_eq name (codes "apk") then Some Apk
    else (if bytes_eq name (codes "semver") then Some Semver
    else (if bytes_eq name (codes "pypi") then Some Pypi else None)))

-- packages and two texts, if there are all three
abbrev pub comparison : Option Packages → Option Text → Option Text → Option Comparison
comparison (Some packages) (Some first) (Some second) = Some (record { packages = packages; first = first; second = second })
comparison _ _ _ = None

-- the comparison for which the arguments ask
abbrev pub comparison_in : List Row → Option Comparison
comparison_in rows = comparison (option_and_then packages_named (first_of (codes "packages") rows)) (first_of (codes "first") rows) (first_of (codes "second") rows)

-- the comparison, if the command takes the arguments; a law says that there is one for all that it takes
abbrev pub comparison_of : List Text → Option Comparison
comparison_of arguments = option_and_then comparison_in (order_rows arguments)

-- `drill` has one required argument, a number from 0 to 4294967295
abbrev pub seed_rule : Rule
seed_rule = record (required_rule (codes "seed")) { parser = Some (parser.Unsigned 0 4294967295) }

-- `drill` has this argument
unfoldable pub drill_app : App
drill_app = with_rule (app_named (codes "drill")) seed_rule

-- what `drill` reads of its arguments, if they are taken
abbrev pub drill_rows : List Text → Option (List Row)
drill_rows arguments = rows_by drill_app arguments

-- the number
abbrev pub seed_in : List Row → Option ℕ
seed_in rows = number_in 0 4294967295 (one_of (codes "seed") rows)

-- the seed of a drill, if its command takes the arguments; a law says that there is one for all that it takes
abbrev pub seed_of : List Text → Option ℕ
seed_of arguments = option_and_then seed_in (drill_rows arguments)
