-- The packages of an image of layers of a desk (defined by this project), and what an answer to their listing says.
use Rattle.std.specs.Prelude.{◌≡◌, ℕ, ◌+◌, ◌≤◌, List, length, Option, Result, Ok, Err, IfSome}
use Rattle.cv_base.specs.declared.package.Package.{Package}
use Rattle.cv_desk.specs.Stored.{Stored}
use Rattle.cv_overlay.specs.declared.fault.ImageFault.{ImageFault}
use Rattle.cv_scan.specs.Image.{image_packages}
use Rattle.cv_scan.specs.Layers.{IsFailed, distinct, is_desk_fault, stored_layers}
use Rattle.cv_scan.specs.declared.layer_error.ImageError.{ImageError}
use Rattle.cv_scan.specs.declared.layer_error.ImageError.TheVariants as error
use Rattle.cv_seq.specs.Cause.{CausedBy}

-- the packages of an image, or why it has none
abbrev pub Listed : Type 0
Listed = Result (List Package) ImageFault

-- an answer is that of the definition. A layer that the desk failed at, and out of memory, say nothing of the image
abbrev pub IsListed : Result (List Package) ImageError → Listed → Type 0
IsListed (Ok packages) listed = listed ≡ Ok packages
IsListed (Err (error.Bad bad)) listed = listed ≡ Err bad
IsListed (Err (error.Desk layer)) listed = Unit {0}
IsListed (Err error.NoMemory) listed = Unit {0}

-- how many listings there were: one for each distinct layer if the packages are known or the image is bad, as many as up to the one
-- that the desk failed at, and no more than distinct layers if memory ran out
abbrev pub AreRead : List (List ℕ) → ℕ → ℕ → Result (List Package) ImageError → Type 0
AreRead layers before now (Ok packages) = now ≡ before + length (distinct layers)
AreRead layers before now (Err (error.Bad bad)) = now ≡ before + length (distinct layers)
AreRead layers before now (Err (error.Desk layer)) = IsFailed (distinct layers) before now layer
AreRead layers before now (Err error.NoMemory) = now ≤ before + length (distinct layers)

-- the answer to the listing of the packages of an image with these seals, by a desk with these counts, before and now
pub record IsListAnswer {D : Type 0} (trees : List ℕ → Option (Option (List Stored))) (listings faults : D → ℕ) (before now : D)
    (layers : List (List ℕ)) (seals : List (Option (List ℕ))) (result : Result (List Package) ImageError) : Type 0 where
  pub answer : IfSome (stored_layers trees layers) (λ stored. IsListed result (image_packages stored seals))
  pub listed : AreRead layers (listings before) (listings now) result
  pub cause : CausedBy (faults before) (faults now) (is_desk_fault result)
