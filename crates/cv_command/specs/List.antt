-- What the scan of a list of components says (defined by this project): its findings, its image if it names one, and how many
-- components are not packages that can be matched. No desk is used.
use Rattle.std.specs.Prelude.{◌≡◌, List}
use Rattle.cv_base.specs.declared.advisory.Advisory.{Advisory}
use Rattle.cv_list_output.specs.Good.{list_good_text}
use Rattle.cv_match.specs.Findings.{findings}
use Rattle.cv_sbom.specs.declared.list.ComponentList.{ComponentList}
use Rattle.cv_command.specs.Outcome.{feeds_of}
use Rattle.cv_command.specs.Printed.{Printed}
use Rattle.cv_command.specs.World.{Counts}
use Rattle.cv_command.specs.declared.status.Status.TheVariants as status

-- the line of a list that was scanned with records
abbrev pub list_printed : ComponentList → List Advisory → Printed
list_printed list records =
    record { text = list_good_text list.image (findings list.packages (feeds_of records)) list.skipped; ended = status.Done }

-- no desk counts anything
abbrev pub UsesNoDesk : ComponentList → Counts → Counts → Type 0
UsesNoDesk list before now = now ≡ before

-- a line says what records find in a list
abbrev pub SaysList : ComponentList → List Advisory → Counts → Counts → Printed → Type 0
SaysList list records before now printed = UsesNoDesk list before now × (printed ≡ list_printed list records)
