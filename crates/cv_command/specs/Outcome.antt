-- What is found of an image (defined by this project), and the line that says it.
use Rattle.std.specs.Prelude.{◌≡◌, ℕ, ◌+◌, ◌≤◌, true, List, [], ◌∷◌, ◌++◌, codes, length, Option, Some, Result, Ok, Err, IfSome}
use Rattle.std.specs.List.{list_all}
use Rattle.cv_base.specs.declared.advisory.Advisory.{Advisory}
use Rattle.cv_base.specs.declared.manifest.Manifest.{Manifest}
use Rattle.cv_base.specs.declared.package.Package.{Package}
use Rattle.cv_desk.specs.Stored.{Stored}
use Rattle.cv_overlay.specs.declared.fault.ImageFault.{ImageFault}
use Rattle.cv_sbom.specs.ListRead.{list_read, list_with}
use Rattle.cv_sbom.specs.ListText.{list_text}
use Rattle.cv_sbom.specs.Listable.{is_below_top}
use Rattle.cv_scan.specs.Image.{image_packages}
use Rattle.cv_scan.specs.Layers.{IsFailed, distinct, stored_layers}
use Rattle.cv_scan.specs.Scan.{scan}
use Rattle.cv_scan_output.specs.Bad.{bad_image_text}
use Rattle.cv_scan_output.specs.Scan.{desk_fault_text, good_text}
use Rattle.cv_seq.specs.Cause.{Rose}
use Rattle.cv_command.specs.Printed.{Printed}
use Rattle.cv_command.specs.World.{Counts, Trees}
use Rattle.cv_command.specs.declared.status.Status.TheVariants as status

-- the layers of an image as a desk's type has them
abbrev pub Layers : Type 0
Layers = List (Option (List Stored))

-- the image was read, or the desk failed at this layer
pub data Outcome (A : Type 0) : Type 0 where
  Complete : Result A ImageFault → Outcome A
  Failed : List ℕ → Outcome A

-- the line of an image that was read, by its digest and the line of what is found
abbrev pub image_printed : {A : Type 0} → List ℕ → (A → List ℕ) → Result A ImageFault → Printed
image_printed hash text (Ok found) = record { text = text found; ended = status.Done }
image_printed hash text (Err bad) = record { text = bad_image_text hash bad; ended = status.Refused }

-- the line of an outcome
abbrev pub outcome_printed : {A : Type 0} → List ℕ → (A → List ℕ) → Outcome A → Printed
outcome_printed hash text (Complete found) = image_printed hash text found
outcome_printed hash text (Failed layer) = record { text = desk_fault_text layer; ended = status.DeskFault }

-- the outcome of an image, by what is found in its layers, by the trees that the desk's type has, if it has those of all layers,
-- and by what the desk counted: there was one listing for each distinct layer, or as many as up to the one at which a fault was
-- counted
abbrev pub HasOutcome : {A : Type 0} → Trees → Manifest → (Layers → Result A ImageFault) → Counts → Counts → Outcome A → Type 0
HasOutcome trees manifest found_in before now (Complete found) =
    IfSome (stored_layers trees manifest.layers) (λ stored. found_in stored ≡ found)
    × (now.listings ≡ before.listings + length (distinct manifest.layers))
HasOutcome trees manifest found_in before now (Failed layer) =
    IsFailed (distinct manifest.layers) before.listings now.listings layer × Rose before.faults now.faults

-- a line says the outcome of an image
module _ {A : Type 0} (trees : Trees) (manifest : Manifest) (found_in : Layers → Result A ImageFault) (text : A → List ℕ) where
  abbrev pub SaysImage : Counts → Counts → Printed → Type 0
  SaysImage before now printed =
      (outcome : Outcome A) × HasOutcome trees manifest found_in before now outcome × (printed ≡ outcome_printed manifest.hash text outcome)

-- there were no more listings than distinct layers
abbrev pub ListsAtMost : Manifest → Counts → Counts → Type 0
ListsAtMost manifest before now = now.listings ≤ before.listings + length (distinct manifest.layers)

-- ---- a scan

-- the one feed of a scan
abbrev pub feeds_of : List Advisory → List (List ℕ × List Advisory)
feeds_of records = (codes "scan", records) ∷ []

-- a line says the outcome of the scan of an image with its stated seals and these records
abbrev pub SaysOutcome : Trees → Manifest → List Advisory → Counts → Counts → Printed → Type 0
SaysOutcome trees manifest records before now printed =
    SaysImage trees manifest (λ stored. scan stored manifest.seals (feeds_of records)) (good_text manifest.hash) before now printed

-- ---- a list of packages

-- the line of packages: their list, and LF
abbrev pub packages_text : List ℕ → List Package → List ℕ
packages_text hash packages = list_text hash packages ++ 10 ∷ []

-- the list of packages that stand below the top of a layer is read back: as the image, and the packages in order, each once, with no
-- component skipped
abbrev pub ReadsBack : List ℕ → List Package → Type 0
ReadsBack hash packages = list_all is_below_top packages ≡ true → list_read (list_text hash packages) ≡ Ok (list_with (Some hash) packages 0)

-- the list that is printed is read back, if one is
abbrev pub IsReadBack : List ℕ → Outcome (List Package) → Type 0
IsReadBack hash (Complete (Ok packages)) = ReadsBack hash packages
IsReadBack hash (Complete (Err bad)) = Unit {0}
IsReadBack hash (Failed layer) = Unit {0}

-- a line says the packages of an image with its stated seals; there are no records
abbrev pub SaysPackages : Trees → Manifest → List Advisory → Counts → Counts → Printed → Type 0
SaysPackages trees manifest records before now printed =
    (outcome : Outcome (List Package)) × HasOutcome trees manifest (λ stored. image_packages stored manifest.seals) before now outcome
    × (printed ≡ outcome_printed manifest.hash (packages_text manifest.hash) outcome) × IsReadBack manifest.hash outcome
