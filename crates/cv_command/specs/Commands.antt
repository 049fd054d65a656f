-- The commands that read an input (defined by this project): `scan`, `sbom` and `scan-list`.
use Rattle.std.specs.Prelude.{ℕ, List, Option}
use Rattle.cv_list_output.specs.Fault.{no_list_text}
use Rattle.cv_scan_input.specs.Request.{list_or, manifest_or}
use Rattle.cv_scan_input.specs.declared.later.Later.TheVariants.{Records, Nothing}
use Rattle.cv_scan_output.specs.Refusal.{no_manifest_text}
use Rattle.cv_command.specs.Command.{CommandEnds}
use Rattle.cv_command.specs.List.{SaysList, UsesNoDesk}
use Rattle.cv_command.specs.Outcome.{ListsAtMost, SaysOutcome, SaysPackages}
use Rattle.cv_command.specs.World.{Trees, World, streams}
use Rattle.cv_command.specs.declared.status.Status.{Status}

-- how `scan` ends: the outcome of an image with records
abbrev pub ScanEnds : Trees → World → World → Status → Type 0
ScanEnds trees before now ended = CommandEnds manifest_or Records no_manifest_text (SaysOutcome trees) ListsAtMost before now ended

-- how `sbom` ends: the packages of an image; no line may stand after its manifest
abbrev pub SbomEnds : Trees → World → World → Status → Type 0
SbomEnds trees before now ended = CommandEnds manifest_or Nothing no_manifest_text (SaysPackages trees) ListsAtMost before now ended

-- how `scan-list` ends: what records find in a list of components, by what is to be read and what is written
abbrev pub ListScanEnds : Option (List ℕ) → Option (List ℕ) → Option (List ℕ) → Option (List ℕ) → Status → Type 0
ListScanEnds remaining remaining_now written written_now ended =
    CommandEnds list_or Records no_list_text SaysList UsesNoDesk (streams remaining written) (streams remaining_now written_now) ended
