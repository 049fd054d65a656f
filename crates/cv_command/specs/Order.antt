-- What the command `order` prints (defined by this project): how two versions compare, by the order of Debian, of Alpine, of
-- semantic versions or of PEP 440, or which of the two is not a valid version.
use Rattle.std.specs.Prelude.{ℕ, if◌then◌else◌, List, codes}
use Rattle.std.specs.Option.{option_map_or}
use Rattle.std.specs.declared.cmp.Ordering.TheVariants.{Less, Equal, Greater}
use Rattle.cv_command_arguments.specs.Forms.{Comparison, comparison_of}
use Rattle.cv_command_arguments.specs.declared.order.Packages.{Packages}
use Rattle.cv_command_arguments.specs.declared.order.Packages.TheVariants as packages
use Rattle.cv_base.specs.declared.«package».PackageKind.{PackageKind}
use Rattle.cv_base.specs.declared.«package».PackageKind.TheVariants.{Deb, Apk, Npm, Pypi}
use Rattle.cv_match.specs.Order.{is_version_of, version_cmp_of}
use Rattle.cv_command.specs.Printed.{Printed, usage}
use Rattle.cv_command.specs.declared.order.Compared.{Compared}
use Rattle.cv_command.specs.declared.order.Compared.TheVariants.{Ordered, NotFirst, NotSecond}
use Rattle.cv_command.specs.declared.status.Status.{Status}
use Rattle.cv_command.specs.declared.status.Status.TheVariants as status

-- the kind of the packages; those of npm have semantic versions
abbrev pub kind_of : Packages → PackageKind
kind_of packages.Deb = Deb
kind_of packages.Apk = Apk
kind_of packages.Semver = Npm
kind_of packages.Pypi = Pypi

-- how two texts compare, or the first one that is not a valid version
abbrev pub compared_as : PackageKind → List ℕ → List ℕ → Compared
compared_as kind first second =
    if is_version_of kind first then (if is_version_of kind second then Ordered (version_cmp_of kind first second) else NotSecond)
    else NotFirst

-- the line of a comparison
abbrev pub compared_text : Compared → List ℕ
compared_text (Ordered Less) = codes "<\n"
compared_text (Ordered Equal) = codes "=\n"
compared_text (Ordered Greater) = codes ">\n"
compared_text NotFirst = codes "not a version: first\n"
compared_text NotSecond = codes "not a version: second\n"

-- how the command ends once that is printed
abbrev pub compared_status : Compared → Status
compared_status (Ordered order) = status.Done
compared_status NotFirst = status.Refused
compared_status NotSecond = status.Refused

-- the line with its status
abbrev pub compared_printed : Compared → Printed
compared_printed compared = record { text = compared_text compared; ended = compared_status compared }

-- what is printed for a comparison
abbrev pub comparison_printed : Comparison → Printed
comparison_printed comparison = compared_printed (compared_as (kind_of comparison.packages) comparison.first comparison.second)

-- what is printed for the arguments: the comparison for which they ask, if they are taken, and all others print the usage line
unfoldable pub order_of : List (List ℕ) → Printed
order_of arguments = option_map_or comparison_printed (comparison_of arguments) usage
