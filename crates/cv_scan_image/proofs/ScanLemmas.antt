-- A scan by the packages of an image.
use Rattle.std.specs.Prelude.{◌≡◌, ℕ, ◌+◌, ◌≤◌, List, length, Option, Some, None, Result, Ok, Err, IfErr, IfOk, IfSome}
use Rattle.std.proofs.Common.{ap, arith, sym, ◌∙◌}
use Rattle.cv_base.specs.declared.advisory.Advisory.{Advisory}
use Rattle.cv_base.specs.declared.finding.Finding.{Finding}
use Rattle.cv_base.specs.declared.package.Package.{Package}
use Rattle.cv_coalesce.proofs.ImageLemmas.{scan_is}
use Rattle.cv_desk.specs.Stored.{Stored}
use Rattle.cv_match.specs.Findings.{findings}
use Rattle.cv_scan.specs.Image.{image_packages}
use Rattle.cv_scan.specs.Layers.{AreListed, IsScanAnswer, IsScanned, distinct, is_desk_fault, stored_layers}
use Rattle.cv_scan.specs.Scan.{scan, with_findings}
use Rattle.cv_scan.specs.declared.layer_error.ImageError.{ImageError}
use Rattle.cv_scan.specs.declared.layer_error.ImageError.TheVariants as error
use Rattle.cv_scan_image.specs.Packages.{AreRead, IsListAnswer, IsListed}
use Rattle.cv_seq.specs.Cause.{CausedBy}

module _ (seals : List (Option (List ℕ))) (feeds : List (List ℕ × List Advisory)) where
  -- the findings of packages that are known
  found_scanned : (packages : List Package) (found : List Finding) (known : Option (List (Option (List Stored)))) → found ≡ findings packages feeds
      → IfSome known (λ stored. IsListed (Ok packages) (image_packages stored seals)) → IfSome known (λ stored. IsScanned (Ok found) (scan stored seals feeds))
  found_scanned packages found None e h = tt
  found_scanned packages found (Some stored) e h = scan_is stored seals feeds ∙ ap (with_findings feeds) h ∙ ap Ok (sym e)

  memory_scanned : (known : Option (List (Option (List Stored)))) → IfSome known (λ stored. IsScanned (Err error.NoMemory) (scan stored seals feeds))
  memory_scanned None = tt
  memory_scanned (Some stored) = tt

  -- why the packages are not known
  failed_scanned : (e : ImageError) (known : Option (List (Option (List Stored)))) → IfSome known (λ stored. IsListed (Err e) (image_packages stored seals))
      → IfSome known (λ stored. IsScanned (Err e) (scan stored seals feeds))
  failed_scanned e None h = tt
  failed_scanned (error.Bad bad) (Some stored) h = scan_is stored seals feeds ∙ ap (with_findings feeds) h
  failed_scanned (error.Desk layer) (Some stored) h = tt
  failed_scanned error.NoMemory (Some stored) h = tt

failed_listed : (layers : List (List ℕ)) (before now : ℕ) (e : ImageError) → AreRead layers before now (Err e) → AreListed layers before now (Err e)
failed_listed layers before now (error.Bad bad) h = h
failed_listed layers before now (error.Desk layer) h = h
failed_listed layers before now error.NoMemory h = h

failed_cause : (before now : ℕ) (e : ImageError) → CausedBy before now (is_desk_fault {A = List Package} (Err e)) → CausedBy before now (is_desk_fault {A = List Finding} (Err e))
failed_cause before now (error.Bad bad) h = h
failed_cause before now (error.Desk layer) h = h
failed_cause before now error.NoMemory h = h

at_most_is : (n m : ℕ) → n ≡ m → n ≤ m
at_most_is n m h = omega (arith, h)

module _ {D : Type 0} (trees : List ℕ → Option (Option (List Stored))) (listings faults : D → ℕ) (before now : D) (layers : List (List ℕ)) (seals : List (Option (List ℕ))) (feeds : List (List ℕ × List Advisory)) where
  -- the answer if the packages are not known
  pub failed_answer : (e : ImageError) → IsListAnswer trees listings faults before now layers seals (Err e) → IsScanAnswer trees listings faults before now layers seals feeds (Err e)
  failed_answer e h = record {
    answer = failed_scanned seals feeds e (stored_layers trees layers) h.answer;
    listed = failed_listed layers (listings before) (listings now) e h.listed;
    cause = failed_cause (faults before) (faults now) e h.cause;
  }

  memory_answer : (packages : List Package) → IsListAnswer trees listings faults before now layers seals (Ok packages)
      → IsScanAnswer trees listings faults before now layers seals feeds (Err error.NoMemory)
  memory_answer packages h = record {
    answer = memory_scanned seals feeds (stored_layers trees layers);
    listed = at_most_is (listings now) (listings before + length (distinct layers)) h.listed;
    cause = h.cause;
  }

  -- the answer if they are known
  pub scan_answer : (packages : List Package) (answer : Result (List Finding) ImageError) → IsListAnswer trees listings faults before now layers seals (Ok packages)
      → IfOk answer (λ found. found ≡ findings packages feeds) → IfErr answer (λ e. e ≡ error.NoMemory) → IsScanAnswer trees listings faults before now layers seals feeds answer
  scan_answer packages (Ok found) h k m = record {
    answer = found_scanned seals feeds packages found (stored_layers trees layers) k h.answer;
    listed = h.listed;
    cause = h.cause;
  }
  scan_answer packages (Err error.NoMemory) h k m = memory_answer packages h
  scan_answer packages (Err (error.Bad bad)) h k m = absurd (cc m)
  scan_answer packages (Err (error.Desk layer)) h k m = absurd (cc m)
