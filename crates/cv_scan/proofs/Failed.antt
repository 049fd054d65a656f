-- Of layers that are read one after the other, the one that the desk failed at is the last one listed.
use Rattle.std.specs.Prelude.{◌≡◌, ℕ, ◌+◌, ◌<◌, List, length, slice_get, Some}
use Rattle.std.proofs.Common.{ap, sym, ◌∙◌, arith}
use Rattle.cv_scan.specs.Failed.{IsOfLayers}
use Rattle.cv_scan.specs.code.Failed.{IsOfLayer}
use Rattle.cv_scan.specs.declared.layer_error.ImageError.{ImageError}
use Rattle.cv_scan.specs.declared.layer_error.ImageError.TheVariants as error

pub failed_one : (layers : List (List ℕ)) (before now : ℕ) (layer : List ℕ) (e : ImageError) (k : ℕ) → k < length layers → slice_get layers k ≡ Some layer → now ≡ before + k + 1
    → IsOfLayer layer e → IsOfLayers layers before now e
failed_one layers before now layer (error.Bad bad) k lt at h of = of
failed_one layers before now layer (error.Desk failed) k lt at h of = (k, h, at ∙ ap Some (sym of))
failed_one layers before now layer error.NoMemory k lt at h of = omega (arith, lt, h)
