-- The packages of an image as an answer.
use Rattle.std.specs.Prelude.{◌≡◌, ℕ, ◌+◌, ◌≤◌, false, List, length, Option, Some, None, Result, Ok, Err, IfSome, refl}
use Rattle.std.proofs.Common.{ap, arith, subst, sym, ◌∙◌}
use Rattle.cv_base.specs.declared.package.Package.{Package}
use Rattle.cv_coalesce.specs.Image.{answer_of}
use Rattle.cv_coalesce.specs.declared.image.ImagePackages.{ImagePackages}
use Rattle.cv_desk.specs.Stored.{Stored}
use Rattle.cv_overlay.specs.declared.fault.ImageFault.{ImageFault}
use Rattle.cv_scan.specs.Failed.{IsOfLayers}
use Rattle.cv_scan.specs.Image.{image_packages}
use Rattle.cv_scan.specs.Layers.{distinct, is_desk_fault, stored_layers}
use Rattle.cv_scan.specs.declared.layer_error.ImageError.{ImageError}
use Rattle.cv_scan.specs.declared.layer_error.ImageError.TheVariants as error
use Rattle.cv_scan_image.specs.Packages.{AreRead, IsListAnswer, IsListed, Listed}
use Rattle.cv_scan_image.specs.code.Packages.{packages_in}
use Rattle.cv_seq.specs.Cause.{CausedBy}

-- ---- layers that were not all read say nothing of the image

failed_listed : (layers : List (List ℕ)) (before now : ℕ) (e : ImageError) (listed : Listed) → IsOfLayers layers before now e → IsListed (Err e) listed
failed_listed layers before now (error.Bad bad) listed h = absurd h
failed_listed layers before now (error.Desk layer) listed h = tt
failed_listed layers before now error.NoMemory listed h = tt

failed_answer : (known : Option (List (Option (List Stored)))) (layers : List (List ℕ)) (before now : ℕ) (e : ImageError) (seals : List (Option (List ℕ)))
    → IsOfLayers layers before now e → IfSome known (λ stored. IsListed (Err e) (image_packages stored seals))
failed_answer None layers before now e seals h = tt
failed_answer (Some stored) layers before now e seals h = failed_listed layers before now e (image_packages stored seals) h

failed_read : (layers : List (List ℕ)) (before now : ℕ) (e : ImageError) → IsOfLayers (distinct layers) before now e → AreRead layers before now (Err e)
failed_read layers before now (error.Bad bad) h = absurd h
failed_read layers before now (error.Desk layer) h = h
failed_read layers before now error.NoMemory h = h

-- the answer if the layers of an image were not all read
pub unread_answer : {D : Type 0} (trees : List ℕ → Option (Option (List Stored))) (listings faults : D → ℕ) (before now : D) (layers : List (List ℕ)) (seals : List (Option (List ℕ))) (e : ImageError)
    → IsOfLayers (distinct layers) (listings before) (listings now) e → CausedBy (faults before) (faults now) (is_desk_fault {A = List Package} (Err e))
    → IsListAnswer trees listings faults before now layers seals (Err e)
unread_answer trees listings faults before now layers seals e h k = record {
  answer = failed_answer (stored_layers trees layers) (distinct layers) (listings before) (listings now) e seals h;
  listed = failed_read layers (listings before) (listings now) e h;
  cause = k;
}

-- ---- what was read was listed, whatever comes of it then

at_most_is : (n m : ℕ) → n ≡ m → n ≤ m
at_most_is n m h = omega (arith, h)

read_listed : (layers : List (List ℕ)) (before now : ℕ) (answer : Result (List Package) ImageError) → is_desk_fault answer ≡ false
    → now ≡ before + length (distinct layers) → AreRead layers before now answer
read_listed layers before now (Ok found) h k = k
read_listed layers before now (Err (error.Bad bad)) h k = k
read_listed layers before now (Err (error.Desk layer)) h k = cc
read_listed layers before now (Err error.NoMemory) h k = at_most_is now (before + length (distinct layers)) k

-- the answer if all layers were read
pub read_answer : {D : Type 0} (trees : List ℕ → Option (Option (List Stored))) (listings faults : D → ℕ) (before now : D) (layers : List (List ℕ)) (seals : List (Option (List ℕ))) (answer : Result (List Package) ImageError)
    → listings now ≡ listings before + length (distinct layers) → CausedBy (faults before) (faults now) false → is_desk_fault answer ≡ false
    → IfSome (stored_layers trees layers) (λ stored. IsListed answer (image_packages stored seals))
    → IsListAnswer trees listings faults before now layers seals answer
read_answer trees listings faults before now layers seals answer h k l m = record {
  answer = m;
  listed = read_listed layers (listings before) (listings now) answer l h;
  cause = subst (CausedBy (faults before) (faults now)) (sym l) k;
}

-- ---- by the packages that were coalesced

packages_answer : (found : Listed) → packages_in (answer_of found) ≡ found
packages_answer (Ok packages) = refl
packages_answer (Err bad) = refl

listed_by : (known : Option (List (Option (List Stored)))) (seals : List (Option (List ℕ))) (packages : ImagePackages) (answer : Result (List Package) ImageError)
    → IfSome known (λ stored. packages ≡ answer_of (image_packages stored seals)) → IsListed answer (packages_in packages)
    → IfSome known (λ stored. IsListed answer (image_packages stored seals))
listed_by None seals packages answer h k = tt
listed_by (Some stored) seals packages answer h k = subst (IsListed answer) (ap packages_in h ∙ packages_answer (image_packages stored seals)) k

-- an answer by the packages of an image's layers is that of the image
pub listed : (trees : List ℕ → Option (Option (List Stored))) (at layers : List (List ℕ)) (seals : List (Option (List ℕ))) (packages : ImagePackages) (answer : Result (List Package) ImageError)
    → at ≡ layers → IfSome (stored_layers trees at) (λ stored. packages ≡ answer_of (image_packages stored seals)) → IsListed answer (packages_in packages)
    → IfSome (stored_layers trees layers) (λ stored. IsListed answer (image_packages stored seals))
listed trees at layers seals packages answer e h k =
    subst (λ ls. IfSome (stored_layers trees ls) (λ stored. IsListed answer (image_packages stored seals))) e (listed_by (stored_layers trees at) seals packages answer h k)
