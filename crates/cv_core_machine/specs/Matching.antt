-- How much matching an event takes (defined by this project), counted in tries of a package with a record. Only the images that it
-- makes fully indexed, and on an update or a patch only the packages with a touched key, are matched.
use Rattle.std.specs.Prelude.{ℕ, ◌+◌, ◌≤◌, Bool, false, ◌&&◌, not, List, [], map, filter, Option, Some, None, Result, Ok, Err}
use Rattle.std.specs.List.{sum_by}
use Rattle.cv_base.specs.declared.«package».Package.{Package}
use Rattle.cv_base.specs.declared.«package».PackageName.{PackageName}
use Rattle.cv_advdb.specs.Feeds.{records_of}
use Rattle.cv_advdb.specs.Touched.{IsTouched, is_touched}
use Rattle.cv_findings.specs.Pairs.{pair_count}
use Rattle.cv_scan.specs.Image.{image_packages}
use Rattle.cv_core_machine.specs.Layers.{is_indexed}
use Rattle.cv_core_machine.specs.Scans.{Trees}
use Rattle.cv_core_machine.specs.State.{Feeds, Layers, State, value_at}
use Rattle.cv_core_machine.specs.Step.{step}
use Rattle.cv_core_machine.specs.declared.event.MachineEvent.{MachineEvent}
use Rattle.cv_core_machine.specs.declared.event.MachineEvent.TheVariants as act
use Rattle.cv_core_machine.specs.declared.image.Image.{Image}

-- packages, and none in the place of a refusal
abbrev pub packages_or_none : {E : Type 0} → Result (List Package) E → List Package
packages_or_none (Ok found) = found
packages_or_none (Err bad) = []

-- the packages of a registered image, and none if its scan is not good
abbrev pub packages_in : Trees → Image → List Package
packages_in trees image = packages_or_none (image_packages (map trees image.layers) image.seals)

-- in the registered images whose layers are all Indexed and whose scan is good, how many pairs there are of a package with one of
-- these keys and a record of these feeds under one of that package's keys
abbrev pub touched_pairs : Trees → State → Feeds → List PackageName → ℕ
touched_pairs trees state feeds keys =
    sum_by (λ (image : List ℕ × Image). pair_count (filter (is_touched keys) (packages_in trees image.1)) feeds)
    (filter (λ (image : List ℕ × Image). is_indexed state.layers image.1.layers) state.images)

-- an image that is registered has only Indexed layers
abbrev pub is_complete : Layers → Option Image → Bool
is_complete table None = false
is_complete table (Some image) = is_indexed table image.layers

-- in the images that are registered with only Indexed layers after an event and were not before it, how many pairs there are of a
-- package and a record under one of its keys
abbrev pub fresh_pairs : Trees → State → State → ℕ
fresh_pairs trees before after =
    sum_by (λ (image : List ℕ × Image). pair_count (packages_in trees image.1) after.feeds)
    (filter (λ (image : List ℕ × Image). is_indexed after.layers image.1.layers && not (is_complete before.layers (value_at before.images image.0))) after.images)

-- the count of tries rises from `old` to `new` at an event from a state to another one: on Update and Patch by at most the touched
-- pairs, whichever list of the touched keys one takes, on Register and Indexed by at most the fresh pairs, and else not at all
abbrev pub CountsUpTo : Trees → State → MachineEvent → State → ℕ → ℕ → Type 0
CountsUpTo trees before (act.Update feed records) after old new =
    (keys : List PackageName) → IsTouched (records_of feed before.feeds) (records_of feed after.feeds) keys → new ≤ old + touched_pairs trees before after.feeds keys
CountsUpTo trees before (act.Patch feed base records remove) after old new =
    (keys : List PackageName) → IsTouched (records_of feed before.feeds) (records_of feed after.feeds) keys → new ≤ old + touched_pairs trees before after.feeds keys
CountsUpTo trees before (act.Register manifest) after old new = new ≤ old + fresh_pairs trees before after
CountsUpTo trees before (act.Indexed layer worker) after old new = new ≤ old + fresh_pairs trees before after
CountsUpTo trees before _ after old new = new ≤ old

-- the count of tries rises from `old` to `new` at an event of the machine
abbrev pub IsStepCount : Trees → State → MachineEvent → ℕ → ℕ → Type 0
IsStepCount trees state event old new = CountsUpTo trees state event (step trees state event).0 old new
