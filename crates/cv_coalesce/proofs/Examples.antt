-- Worked examples of what is gathered from the layers of an image.
use Rattle.std.specs.Prelude.{◌≡◌, ℕ, false, List, [], ◌∷◌, codes, Some, None, refl}
use Rattle.cv_base.specs.Path.{Path, components}
use Rattle.cv_facts.specs.declared.reduction.Reduction.{Reduction}
use Rattle.cv_facts.specs.declared.reduction.Shape.{Shape}
use Rattle.cv_facts.specs.declared.reduction.Shape.TheVariants as shape
use Rattle.cv_overlay.specs.declared.fault.ImageFault.TheVariants as fault
use Rattle.cv_overlay.specs.declared.fault.TreeFault.TheVariants.{BadMark}
use Rattle.cv_packages.specs.declared.found.FileFound.{FileFound}
use Rattle.cv_packages.specs.declared.found.Found.TheVariants.{TooLarge}
use Rattle.cv_coalesce.specs.Coalesced.{first_fault}
use Rattle.cv_coalesce.specs.Gathered.{gathered}
use Rattle.cv_coalesce.specs.Hides.{hides}

abbrev status : Path
status = components (codes "var/lib/dpkg/status")

abbrev release : Path
release = components (codes "etc/os-release")

abbrev file : Path → FileFound
file path = record { path = path; found = TooLarge }

-- a layer with these files and nothing else
abbrev with_files : List Path → List FileFound → Reduction
with_files covers files = record { whiteouts = []; opaques = []; covers = covers; place_dirs = []; files = files; seal = [] }

abbrev base : Reduction
base = with_files (release ∷ status ∷ []) (file release ∷ file status ∷ [])

-- a layer with these whiteouts, opaque directories, entries that are no directories, and directories at places
abbrev hiding : List Path → List Path → List Path → List Path → Reduction
hiding whiteouts opaques covers place_dirs = record { whiteouts = whiteouts; opaques = opaques; covers = covers; place_dirs = place_dirs; files = []; seal = [] }

-- a whiteout hides its target, and all below it
whiteout : gathered (base ∷ hiding (status ∷ []) [] [] [] ∷ []) ≡ file release ∷ []
whiteout = refl

whiteout_above : gathered (base ∷ hiding (components (codes "var/lib") ∷ []) [] [] [] ∷ []) ≡ file release ∷ []
whiteout_above = refl

-- it hides nothing of its own layer
own : gathered (record { whiteouts = status ∷ []; opaques = []; covers = status ∷ []; place_dirs = []; files = file status ∷ []; seal = [] } ∷ []) ≡ file status ∷ []
own = refl

-- an opaque mark hides all below its directory, at any depth, and that at the top hides all; the directory itself stays
opaque : gathered (base ∷ hiding [] (components (codes "var") ∷ []) [] [] ∷ []) ≡ file release ∷ []
opaque = refl

opaque_top : gathered (base ∷ hiding [] ([] ∷ []) [] [] ∷ []) ≡ []
opaque_top = refl

opaque_itself : hides (hiding [] (status ∷ []) [] []) status ≡ false
opaque_itself = refl

-- a file hides what lower layers have below its path
file_above : gathered (base ∷ hiding [] [] (components (codes "var") ∷ []) [] ∷ []) ≡ file release ∷ []
file_above = refl

-- a directory at a place hides a lower file there, and nothing below
directory : gathered (base ∷ hiding [] [] [] (status ∷ []) ∷ []) ≡ file release ∷ []
directory = refl

directory_above : hides (hiding [] [] [] (components (codes "var") ∷ [])) status ≡ false
directory_above = refl

-- of one path the topmost file is taken, and files stand in the order of their paths
topmost : gathered (with_files (status ∷ []) (file status ∷ []) ∷ with_files (status ∷ []) (file status ∷ []) ∷ with_files (release ∷ []) (file release ∷ []) ∷ [])
    ≡ file release ∷ file status ∷ []
topmost = refl

-- a layer that stands again brings its files back
twice : gathered (base ∷ hiding [] ([] ∷ []) [] [] ∷ base ∷ []) ≡ file release ∷ file status ∷ []
twice = refl

-- A missing layer is named before a bad tree, and that before the first layer with another seal than the stated one.

-- an empty layer with this seal
abbrev sealed : List ℕ → Shape
sealed seal = shape.Reduced (record { whiteouts = []; opaques = []; covers = []; place_dirs = []; files = []; seal = seal })

first : (first_fault (sealed (codes "a") ∷ shape.BadTree (BadMark 0) ∷ shape.NoLayer ∷ []) (Some (codes "b") ∷ None ∷ None ∷ []) ≡ Some (fault.NoLayer 2))
    × (first_fault (sealed (codes "a") ∷ shape.BadTree (BadMark 0) ∷ []) (Some (codes "b") ∷ None ∷ []) ≡ Some (fault.BadTree 1 (BadMark 0)))
first = (refl, refl)

-- each seal is compared with that of its own tree
own_seal : (first_fault (sealed (codes "a") ∷ sealed (codes "b") ∷ []) (None ∷ Some (codes "b") ∷ []) ≡ None)
    × (first_fault (sealed (codes "a") ∷ sealed (codes "b") ∷ []) (Some (codes "a") ∷ Some (codes "a") ∷ []) ≡ Some (fault.BadSeal 1 (codes "a") (codes "b")))
own_seal = (refl, refl)
