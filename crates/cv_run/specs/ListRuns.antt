-- Runs of the commands on lists of components (defined by this project): what `scan-list` finds in the list that `sbom` wrote, by what
-- `scan` finds in the image.
use Rattle.std.specs.Prelude.{◌≡◌, ℕ, List, [], ◌∷◌, ◌++◌, codes, Option, Some}
use Rattle.cv_command.specs.World.{RunWorld, Trees}
use Rattle.cv_command.specs.declared.status.Status.TheVariants as status
use Rattle.cv_io.specs.Lines.{HasNoLineEnd, LF}
use Rattle.cv_command.specs.SameFindings.{KnowsLayers, SayTheSame}
use Rattle.cv_run.specs.Run.{RunEnds}

-- a run of a command without arguments was done: it read these bytes, and wrote those
pub record IsRun {S D : Type 0} (trees : Trees) (remaining : S → Option (List ℕ)) (listings faults : D → ℕ) (name input output : List ℕ) : Type 0 where
  pub before : RunWorld S D
  pub now : RunWorld S D
  pub read : remaining before.input ≡ Some input
  pub empty : before.written ≡ Some []
  pub wrote : now.written ≡ Some output
  pub ends : RunEnds trees remaining listings faults (name ∷ []) before now status.Done

-- `sbom` read the line of a manifest, `scan` the same line and records, and `scan-list` the list that `sbom` wrote and the same
-- records: the two scans say the same findings of the same image, and no component of the list is skipped
abbrev pub RunsFindTheSame : {S D : Type 0} → Trees → (S → Option (List ℕ)) → (D → ℕ) → (D → ℕ) → Type 0
RunsFindTheSame trees remaining listings faults =
    (manifest records list found listed : List ℕ) → KnowsLayers trees → HasNoLineEnd manifest
    → IsRun trees remaining listings faults (codes "sbom") (manifest ++ LF ∷ []) list
    → IsRun trees remaining listings faults (codes "scan") (manifest ++ LF ∷ records) found
    → IsRun trees remaining listings faults (codes "scan-list") (list ++ records) listed
    → SayTheSame found listed
