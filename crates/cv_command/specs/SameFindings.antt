-- What the scan of a list of components finds, by what the scan of its image finds (defined by this project).
use Rattle.std.specs.Prelude.{◌≡◌, ℕ, List, [], ◌∷◌, ◌++◌, Some, IsSome}
use Rattle.cv_base.specs.declared.finding.Finding.{Finding}
use Rattle.cv_command.specs.Commands.{ListScanEnds, SbomEnds, ScanEnds}
use Rattle.cv_command.specs.World.{Trees, World}
use Rattle.cv_command.specs.declared.status.Status.{Status}
use Rattle.cv_command.specs.declared.status.Status.TheVariants as status
use Rattle.cv_io.specs.Lines.{HasNoLineEnd, LF}
use Rattle.cv_list_output.specs.Good.{list_good_text}
use Rattle.cv_scan_output.specs.Scan.{good_text}

-- a command of these ends was done: it read these bytes, and wrote those
pub record IsDone (Ends : World → World → Status → Type 0) (input output : List ℕ) : Type 0 where
  pub before : World
  pub now : World
  pub read : before.remaining ≡ Some input
  pub empty : before.written ≡ Some []
  pub wrote : now.written ≡ Some output
  pub ends : Ends before now status.Done

-- the ends of `scan-list`, which uses no desk
abbrev pub ListEnds : World → World → Status → Type 0
ListEnds before now ended = ListScanEnds before.remaining now.remaining before.written now.written ended

-- a desk's type says of each digest whether there is such a layer, and what it has
abbrev pub KnowsLayers : Trees → Type 0
KnowsLayers trees = (digest : List ℕ) → IsSome (trees digest)

-- two lines say the same findings of one image: that of a scan, and that of the scan of a list of which no component is skipped
abbrev pub SayTheSame : List ℕ → List ℕ → Type 0
SayTheSame found listed =
    (image : List ℕ) × (findings : List Finding) × (found ≡ good_text image findings) × (listed ≡ list_good_text (Some image) findings 0)

-- `sbom` read the line of a manifest, `scan` the same line and records, and `scan-list` the list that `sbom` wrote and the same records
abbrev pub FindsTheSame : Trees → Type 0
FindsTheSame trees =
    (manifest records list found listed : List ℕ) → KnowsLayers trees → HasNoLineEnd manifest
    → IsDone (SbomEnds trees) (manifest ++ LF ∷ []) list → IsDone (ScanEnds trees) (manifest ++ LF ∷ records) found
    → IsDone ListEnds (list ++ records) listed → SayTheSame found listed
