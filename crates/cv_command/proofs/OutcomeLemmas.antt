-- A line says the outcome of an image.
use Rattle.std.proofs.Common.{◌≡◌, ℕ, ◌+◌, true, List, [], ◌∷◌, Option, length, codes, refl, ◌∙◌, ap, arith, subst}
use Rattle.std.proofs.lemmas.Option.{slice_get_within}
use Rattle.std.specs.Prelude.{◌≤◌, IfOk, IfSome, Result, Ok, Err}
use Rattle.cv_base.specs.declared.advisory.Advisory.{Advisory}
use Rattle.cv_base.specs.declared.finding.Finding.{Finding}
use Rattle.cv_base.specs.declared.manifest.Manifest.{Manifest}
use Rattle.cv_base.specs.declared.package.Package.{Package}
use Rattle.cv_overlay.specs.declared.fault.ImageFault.{ImageFault}
use Rattle.cv_scan.specs.Image.{image_packages}
use Rattle.cv_scan.specs.Layers.{AreListed, IsFailed, IsScanned, distinct, is_desk_fault, stored_layers}
use Rattle.cv_scan.specs.Scan.{Scanned, scan}
use Rattle.cv_scan.specs.declared.layer_error.ImageError.{ImageError}
use Rattle.cv_scan.specs.declared.layer_error.ImageError.TheVariants as error
use Rattle.cv_scan_image.specs.Packages.{AreRead, IsListed, Listed}
use Rattle.cv_seq.specs.Cause.{CausedBy, Rose}
use Rattle.cv_scan_output.specs.Scan.{good_text}
use Rattle.cv_command.specs.List.{SaysList}
use Rattle.cv_command.specs.Outcome.{Complete, Failed, Layers, Outcome, ReadsBack, SaysImage, SaysOutcome, SaysPackages, outcome_printed, packages_text}
use Rattle.cv_command.specs.Printed.{Printed}
use Rattle.cv_seq.specs.declared.memory.NoMemory.{NoMemory}
use Rattle.cv_sbom.specs.declared.list.ComponentList.{ComponentList}
use Rattle.cv_command.specs.World.{Counts, Trees}
use Rattle.cv_command.specs.code.Printing.{SaysError, printed_of}
use Rattle.cv_command.specs.declared.scanning.Answer.{Answer}
use Rattle.cv_command.specs.declared.status.Status.TheVariants as status
use Rattle.cv_command.proofs.Ends.{is_line_end}

outcome_end : {A : Type 0} (hash : List ℕ) (text : A → List ℕ) (outcome : Outcome A) → is_line_end (outcome_printed hash text outcome).ended ≡ true
outcome_end hash text (Complete (Ok found)) = refl
outcome_end hash text (Complete (Err bad)) = refl
outcome_end hash text (Failed layer) = refl

module _ {A : Type 0} (trees : Trees) (manifest : Manifest) (found_in : Layers → Result A ImageFault) (text : A → List ℕ) (before now : Counts) where
  abbrev Says : Printed → Type 0
  Says printed = SaysImage trees manifest found_in text before now printed

  -- the image was read whole, and its line was made
  pub says_complete : (found : A) (line : List ℕ) → IfSome (stored_layers trees manifest.layers) (λ stored. found_in stored ≡ Ok found)
      → now.listings ≡ before.listings + length (distinct manifest.layers) → line ≡ text found → Says (record { text = line; ended = status.Done })
  says_complete found line known counted made = (Complete (Ok found), (known, counted), λ i. record { text = made i; ended = status.Done })

  -- the image is bad
  pub says_bad : (bad : ImageFault) (printed : Printed) → IfSome (stored_layers trees manifest.layers) (λ stored. found_in stored ≡ Err bad)
      → now.listings ≡ before.listings + length (distinct manifest.layers) → SaysError manifest.hash (error.Bad bad) printed → Says printed
  says_bad bad printed known counted line = (Complete (Err bad), (known, counted), line)

  -- the desk failed
  pub says_failed : (layer : List ℕ) (printed : Printed) → IsFailed (distinct manifest.layers) before.listings now.listings layer
      → Rose before.faults now.faults → SaysError manifest.hash (error.Desk layer) printed → Says printed
  says_failed layer printed failed rose line = (Failed layer, (failed, rose), line)

  -- the line of an outcome ends the command
  pub image_end : (printed : Printed) → Says printed → is_line_end printed.ended ≡ true
  image_end printed (outcome, has, e) = ap (λ (p : Printed). is_line_end p.ended) e ∙ outcome_end manifest.hash text outcome

-- ---- a scan

-- the scan of an image, by the trees that the desk's type has
abbrev IsScan : Trees → List (List ℕ) → List (Option (List ℕ)) → List (List ℕ × List Advisory) → Scanned → Type 0
IsScan trees layers seals feeds scanned = IfSome (stored_layers trees layers) (λ stored. scan stored seals feeds ≡ scanned)

-- the same layers, seals, records and feed
these : (trees : Trees) (layers ls : List (List ℕ)) (seals ss : List (Option (List ℕ))) (records rs : List Advisory) (feed : List ℕ) (scanned : Scanned)
    → ls ≡ layers → ss ≡ seals → rs ≡ records → feed ≡ codes "scan" → IsScan trees ls ss ((feed, rs) ∷ []) scanned → IsScan trees layers seals ((codes "scan", records) ∷ []) scanned
these trees layers ls seals ss records rs feed scanned l s r f h =
    subst (λ xs. IsScan trees xs seals ((codes "scan", records) ∷ []) scanned) l
    (subst (λ xs. IsScan trees ls xs ((codes "scan", records) ∷ []) scanned) s
    (subst (λ g. IsScan trees ls ss ((g, records) ∷ []) scanned) f (subst (λ ys. IsScan trees ls ss ((feed, ys) ∷ []) scanned) r h)))

module _ (trees : Trees) (manifest : Manifest) (records rs : List Advisory) (layers : List (List ℕ)) (seals : List (Option (List ℕ))) (before now : Counts) (feed : List ℕ)
    (l : layers ≡ manifest.layers) (s : seals ≡ manifest.seals) (r : rs ≡ records) (f : feed ≡ codes "scan") where
  these_scanned : (scanned : Scanned) → IsScan trees layers seals ((feed, rs) ∷ []) scanned → IsScan trees manifest.layers manifest.seals ((codes "scan", records) ∷ []) scanned
  these_scanned scanned h = these trees manifest.layers layers manifest.seals seals records rs feed scanned l s r f h

  pub says_good : (text : List ℕ) (found : List Finding) → IsScan trees layers seals ((feed, rs) ∷ []) (Ok found)
      → now.listings ≡ before.listings + length (distinct layers) → text ≡ good_text manifest.hash found
      → SaysOutcome trees manifest records before now (record { text = text; ended = status.Done })
  says_good text found known counted line =
      says_complete trees manifest (λ stored. scan stored manifest.seals ((codes "scan", records) ∷ [])) (good_text manifest.hash) before now found text
      (these_scanned (Ok found) known) (counted ∙ ap (λ ls. before.listings + length (distinct ls)) l) line

  says_error : (e : ImageError) (printed : Printed) → IfSome (stored_layers trees layers) (λ stored. IsScanned (Err e) (scan stored seals ((feed, rs) ∷ [])))
      → AreListed layers before.listings now.listings (Err e) → CausedBy before.faults now.faults (is_desk_fault {A = List Finding} (Err e)) → SaysError manifest.hash e printed
      → SaysOutcome trees manifest records before now printed
  says_error (error.Bad bad) printed known counted cause line =
      says_bad trees manifest (λ stored. scan stored manifest.seals ((codes "scan", records) ∷ [])) (good_text manifest.hash) before now bad printed
      (these_scanned (Err bad) known) (counted ∙ ap (λ ls. before.listings + length (distinct ls)) l) line
  says_error (error.Desk layer) printed known failed cause line =
      says_failed trees manifest (λ stored. scan stored manifest.seals ((codes "scan", records) ∷ [])) (good_text manifest.hash) before now layer printed
      (subst (λ ls. IsFailed (distinct ls) before.listings now.listings layer) l failed) cause.rose line
  says_error error.NoMemory printed known counted cause line = absurd line

  -- the answer of the code to an image without findings
  pub answer_says : (e : ImageError) (answer : Result Answer NoMemory) → IfSome (stored_layers trees layers) (λ stored. IsScanned (Err e) (scan stored seals ((feed, rs) ∷ [])))
      → AreListed layers before.listings now.listings (Err e) → CausedBy before.faults now.faults (is_desk_fault {A = List Finding} (Err e))
      → IfOk answer (λ a. SaysError manifest.hash e (printed_of a)) → IfOk answer (λ a. SaysOutcome trees manifest records before now (printed_of a))
  answer_says e (Ok a) known counted cause line = says_error e (printed_of a) known counted cause line
  answer_says e (Err m) known counted cause line = tt

-- ---- a list of packages

-- there were no more listings than distinct layers
pub read_at_most : (layers : List (List ℕ)) (before now : ℕ) (answer : Result (List Package) ImageError) → AreRead layers before now answer → now ≤ before + length (distinct layers)
read_at_most layers before now (Ok packages) h = omega (arith, h)
read_at_most layers before now (Err (error.Bad bad)) h = omega (arith, h)
read_at_most layers before now (Err (error.Desk layer)) (k, h, at) = let lt = slice_get_within (distinct layers) k layer at in omega (arith, h, lt)
read_at_most layers before now (Err error.NoMemory) h = h

module _ (trees : Trees) (manifest : Manifest) (records : List Advisory) (layers : List (List ℕ)) (seals : List (Option (List ℕ))) (before now : Counts)
    (l : layers ≡ manifest.layers) (s : seals ≡ manifest.seals) where
  abbrev IsPackages : Listed → Type 0
  IsPackages listed = IfSome (stored_layers trees manifest.layers) (λ stored. image_packages stored manifest.seals ≡ listed)

  these_listed : (listed : Listed) → IfSome (stored_layers trees layers) (λ stored. image_packages stored seals ≡ listed) → IsPackages listed
  these_listed listed h =
      subst (λ xs. IfSome (stored_layers trees xs) (λ stored. image_packages stored manifest.seals ≡ listed)) l
      (subst (λ xs. IfSome (stored_layers trees layers) (λ stored. image_packages stored xs ≡ listed)) s h)

  pub says_packages : (text : List ℕ) (packages : List Package) → IfSome (stored_layers trees layers) (λ stored. IsListed (Ok packages) (image_packages stored seals))
      → now.listings ≡ before.listings + length (distinct layers) → text ≡ packages_text manifest.hash packages → ReadsBack manifest.hash packages
      → SaysPackages trees manifest records before now (record { text = text; ended = status.Done })
  says_packages text packages known counted line back = (
    Complete (Ok packages),
    (these_listed (Ok packages) known, counted ∙ ap (λ ls. before.listings + length (distinct ls)) l),
    (λ i. record { text = line i; ended = status.Done }),
    back,
  )

  says_unlisted : (e : ImageError) (printed : Printed) → IfSome (stored_layers trees layers) (λ stored. IsListed (Err e) (image_packages stored seals))
      → AreRead layers before.listings now.listings (Err e) → CausedBy before.faults now.faults (is_desk_fault {A = List Package} (Err e)) → SaysError manifest.hash e printed
      → SaysPackages trees manifest records before now printed
  says_unlisted (error.Bad bad) printed known counted cause line =
      (Complete (Err bad), (these_listed (Err bad) known, counted ∙ ap (λ ls. before.listings + length (distinct ls)) l), line, tt)
  says_unlisted (error.Desk layer) printed known failed cause line =
      (Failed layer, (subst (λ ls. IsFailed (distinct ls) before.listings now.listings layer) l failed, cause.rose), line, tt)
  says_unlisted error.NoMemory printed known counted cause line = absurd line

  -- the answer of the code to an image without a list
  pub unlisted_says : (e : ImageError) (answer : Result Answer NoMemory) → IfSome (stored_layers trees layers) (λ stored. IsListed (Err e) (image_packages stored seals))
      → AreRead layers before.listings now.listings (Err e) → CausedBy before.faults now.faults (is_desk_fault {A = List Package} (Err e))
      → IfOk answer (λ a. SaysError manifest.hash e (printed_of a)) → IfOk answer (λ a. SaysPackages trees manifest records before now (printed_of a))
  unlisted_says e (Ok a) known counted cause line = says_unlisted e (printed_of a) known counted cause line
  unlisted_says e (Err m) known counted cause line = tt

-- the line of packages ends the command
pub packages_end : (trees : Trees) (manifest : Manifest) (records : List Advisory) (before now : Counts) (printed : Printed) → SaysPackages trees manifest records before now printed
    → is_line_end printed.ended ≡ true
packages_end trees manifest records before now printed (outcome, has, e, back) = ap (λ (p : Printed). is_line_end p.ended) e ∙ outcome_end manifest.hash (packages_text manifest.hash) outcome

-- the line of a list of components ends the command
pub list_end : (list : ComponentList) (records : List Advisory) (before now : Counts) (printed : Printed) → SaysList list records before now printed → is_line_end printed.ended ≡ true
list_end list records before now printed (unused, e) = ap (λ (p : Printed). is_line_end p.ended) e
