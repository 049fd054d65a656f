-- One layer that was not read.
use Rattle.std.specs.Prelude.{◌≡◌, ℕ, List}
use Rattle.cv_scan.specs.declared.layer_error.ImageError.{ImageError}
use Rattle.cv_scan.specs.declared.layer_error.ImageError.TheVariants as error

-- why a layer was not read
abbrev pub IsOfLayer : List ℕ → ImageError → Type 0
IsOfLayer layer (error.Bad bad) = ⊥
IsOfLayer layer (error.Desk failed) = failed ≡ layer
IsOfLayer layer error.NoMemory = Unit {0}
