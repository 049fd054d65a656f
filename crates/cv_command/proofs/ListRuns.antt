-- The scan of the list of an image finds what the scan of the image finds.
use Rattle.std.specs.Prelude.{◌≡◌, ℕ, true, List, [], ◌∷◌, ◌++◌, Option, Some, None, Result, Ok, Err, IfSome, IsSome, refl}
use Rattle.std.specs.List.{list_all}
use Rattle.std.proofs.Common.{ap, sym, subst, append_assoc, ◌∙◌}
use Rattle.cv_base.specs.declared.advisory.Advisory.{Advisory}
use Rattle.cv_base.specs.declared.finding.Finding.{Finding}
use Rattle.cv_base.specs.declared.manifest.Manifest.{Manifest}
use Rattle.cv_base.specs.declared.package.Package.{Package}
use Rattle.cv_base.specs.declared.tree.TreeEntry.{TreeEntry}
use Rattle.cv_coalesce.proofs.ImageLemmas.{scan_is}
use Rattle.cv_command.specs.List.{SaysList, UsesNoDesk}
use Rattle.cv_command.specs.Outcome.{Complete, Failed, Layers, ListsAtMost, ReadsBack, SaysOutcome, SaysPackages, feeds_of, packages_text}
use Rattle.cv_command.specs.Printed.{Printed}
use Rattle.cv_command.specs.World.{Counts, Trees, streams}
use Rattle.cv_command.specs.declared.status.Status.TheVariants as status
use Rattle.cv_desk.specs.Stored.{Stored}
use Rattle.cv_io.specs.Lines.{LF, text_of}
use Rattle.cv_list_output.specs.Fault.{no_list_text}
use Rattle.cv_list_output.specs.Good.{list_good_text}
use Rattle.cv_match.specs.Findings.{findings}
use Rattle.cv_overlay.specs.declared.fault.ImageFault.{ImageFault}
use Rattle.cv_packages.specs.Packages.{packages}
use Rattle.cv_packages.specs.declared.error.FileFault.{FileFault}
use Rattle.cv_sbom.proofs.BelowTop.{below_top}
use Rattle.cv_sbom.specs.ListRead.{list_with}
use Rattle.cv_sbom.specs.ListText.{list_text}
use Rattle.cv_sbom.specs.Listable.{is_below_top}
use Rattle.cv_sbom.specs.declared.list.ComponentList.{ComponentList}
use Rattle.cv_scan.specs.Image.{as_image, image_packages, packages_layers, packages_unless, trees_from}
use Rattle.cv_scan.specs.Layers.{stored_layers}
use Rattle.cv_scan.specs.Root.{root_entries}
use Rattle.cv_scan.specs.Scan.{scan, with_findings}
use Rattle.cv_scan_input.specs.Request.{faulting, list_or, manifest_or}
use Rattle.cv_scan_input.specs.declared.error.InputFault.{InputFault}
use Rattle.cv_scan_input.specs.declared.error.InputFault.TheVariants.{Components}
use Rattle.cv_scan_input.specs.declared.later.Later.TheVariants.{Records, Nothing}
use Rattle.cv_scan_output.specs.Refusal.{no_manifest_text}
use Rattle.cv_scan_output.specs.Scan.{good_text}
use Rattle.cv_command.specs.SameFindings.{FindsTheSame, KnowsLayers}
use Rattle.cv_command.proofs.FirstLines.{all_written, first_line, has_answered, of_known}
use Rattle.cv_command.proofs.NoLineEnd.{list_plain, plain_line, plain_text}
use Rattle.cv_command.proofs.SameFindings.{same_findings}

-- ---- the packages of an image stand below the top

-- a value without a fault
abbrev ok : {X : Type 0} (E : Type 0) → X → Result X E
ok E x = Ok x

ok_below : (E : Type 0) (ps found : List Package) → ok E ps ≡ Ok found → list_all is_below_top ps ≡ true → list_all is_below_top found ≡ true
ok_below E ps found e h = let same : ps ≡ found = cc in subst (λ xs. list_all is_below_top xs ≡ true) same h

unless_below : (fault : Option ImageFault) (trees : List (List TreeEntry)) (found : List Package) → packages_unless fault trees ≡ Ok found → list_all is_below_top found ≡ true
unless_below (Some bad) trees found e = absurd (cc)
unless_below None trees found e = by_root (packages (root_entries trees)) refl e
  where
    by_root : (answer : Result (List Package) FileFault) → packages (root_entries trees) ≡ answer → as_image answer ≡ Ok found → list_all is_below_top found ≡ true
    by_root (Ok ps) r e = ok_below ImageFault ps found e (below_top (root_entries trees) ps r)
    by_root (Err refused) r e = absurd (cc)

layers_below : (seals : List (Option (List ℕ))) (layers : Result (List (List Stored)) ImageFault) (found : List Package) → packages_layers seals layers ≡ Ok found → list_all is_below_top found ≡ true
layers_below seals (Err bad) found e = absurd (cc)
layers_below seals (Ok layers) found e = unless_below _ _ found e

image_below : (layers : Layers) (seals : List (Option (List ℕ))) (found : List Package) → image_packages layers seals ≡ Ok found → list_all is_below_top found ≡ true
unfolding image_packages
image_below layers seals found e = layers_below seals (trees_from 0 layers) found e

-- ---- the layers of a desk's type that knows them

record AreKnown (trees : Trees) (layers : List (List ℕ)) : Type 0 where
  stored : Layers
  are : stored_layers trees layers ≡ Some stored

all_known : (trees : Trees) → KnowsLayers trees → (layers : List (List ℕ)) → AreKnown trees layers
all_known trees knows [] = record { stored = []; are = refl }
all_known trees knows (layer ∷ layers) = by_first (trees layer) refl (knows layer) (all_known trees knows layers)
  where
    by_first : (first : Option (Option (List Stored))) → trees layer ≡ first → IsSome first → AreKnown trees layers → AreKnown trees (layer ∷ layers)
    by_first None e h rest = absurd (cc)
    by_first (Some one) e h rest = record { stored = one ∷ rest.stored; are = rw (e, rest.are) refl }

-- ---- what the lines say

refused_done : status.Refused ≡ status.Done → ⊥
refused_done h = cc

fault_done : status.DeskFault ≡ status.Done → ⊥
fault_done h = cc

record HasPackages (trees : Trees) (manifest : Manifest) (text : List ℕ) : Type 0 where
  found : List Package
  of : IfSome (stored_layers trees manifest.layers) (λ stored. image_packages stored manifest.seals ≡ Ok found)
  line : text ≡ packages_text manifest.hash found
  back : ReadsBack manifest.hash found

has_packages : (trees : Trees) (manifest : Manifest) (records : List Advisory) (before now : Counts) (printed : Printed) → SaysPackages trees manifest records before now printed
    → printed.ended ≡ status.Done → HasPackages trees manifest printed.text
has_packages trees manifest records before now printed (Complete (Ok found), has, e, back) done =
    record { found = found; of = has.0; line = ap (λ (p : Printed). p.text) e; back = back }
has_packages trees manifest records before now printed (Complete (Err bad), has, e, back) done = absurd (refused_done (sym (ap (λ (p : Printed). p.ended) e) ∙ done))
has_packages trees manifest records before now printed (Failed layer, has, e, back) done = absurd (fault_done (sym (ap (λ (p : Printed). p.ended) e) ∙ done))

record HasFindings (trees : Trees) (manifest : Manifest) (records : List Advisory) (text : List ℕ) : Type 0 where
  found : List Finding
  of : IfSome (stored_layers trees manifest.layers) (λ stored. scan stored manifest.seals (feeds_of records) ≡ Ok found)
  line : text ≡ good_text manifest.hash found

has_findings : (trees : Trees) (manifest : Manifest) (records : List Advisory) (before now : Counts) (printed : Printed) → SaysOutcome trees manifest records before now printed
    → printed.ended ≡ status.Done → HasFindings trees manifest records printed.text
has_findings trees manifest records before now printed (Complete (Ok found), has, e) done = record { found = found; of = has.0; line = ap (λ (p : Printed). p.text) e }
has_findings trees manifest records before now printed (Complete (Err bad), has, e) done = absurd (refused_done (sym (ap (λ (p : Printed). p.ended) e) ∙ done))
has_findings trees manifest records before now printed (Failed layer, has, e) done = absurd (fault_done (sym (ap (λ (p : Printed). p.ended) e) ∙ done))

-- ---- one image

ok_same : {X : Type 0} (E : Type 0) (x y : X) → ok E x ≡ Ok y → x ≡ y
ok_same E x y h = cc

-- the findings of the scan are those of the packages
packages_found : (stored : Layers) (seals : List (Option (List ℕ))) (records : List Advisory) (ps : List Package) (fs : List Finding) → image_packages stored seals ≡ Ok ps
    → scan stored seals (feeds_of records) ≡ Ok fs → findings ps (feeds_of records) ≡ fs
packages_found stored seals records ps fs h k =
    ok_same ImageFault (findings ps (feeds_of records)) fs (sym (ap (with_findings (feeds_of records)) h) ∙ sym (scan_is stored seals (feeds_of records)) ∙ k)

-- the list is read as the image and its packages
list_is : (image : List ℕ) (ps : List Package) (list : ComponentList) → list_or (text_of (list_text image ps)) ≡ Ok list → ReadsBack image ps → list_all is_below_top ps ≡ true
    → list ≡ list_with (Some image) ps 0
list_is image ps list read back below =
    ok_same InputFault list (list_with (Some image) ps 0)
    (sym (subst (λ line. list_or line ≡ Ok list) (plain_text (list_text image ps) (list_plain image ps)) read) ∙ ap (faulting Components) (back below))

pub finds_the_same : (trees : Trees) → FindsTheSame trees
finds_the_same trees manifest records list found listed knows none s g l =
    let sbom = has_answered manifest_or Nothing no_manifest_text (SaysPackages trees) ListsAtMost s.before s.now s.ends in
    let image = sbom.first in
    let at = first_line manifest_or Nothing manifest [] image sbom.records none (of_known _ s.before.remaining _ s.read sbom.request) in
    let ps = has_packages trees image sbom.records s.before.counts s.now.counts sbom.printed sbom.says sbom.done in
    let known = all_known trees knows image.layers in
    let of = of_stored _ _ known.stored known.are ps.of in
    let listing : list ≡ packages_text image.hash ps.found = all_written s.before.written s.now.written list sbom.printed.text s.empty s.wrote sbom.appended ∙ ps.line in
    let scanned = has_answered manifest_or Records no_manifest_text (SaysOutcome trees) ListsAtMost g.before g.now g.ends in
    let begun = first_line manifest_or Records manifest records scanned.first scanned.records none (of_known _ g.before.remaining _ g.read scanned.request) in
    let same : scanned.first ≡ image = ok_same InputFault scanned.first image (sym begun.read ∙ at.read) in
    let fs = has_findings trees image scanned.records g.before.counts g.now.counts scanned.printed
    (subst (λ m. SaysOutcome trees m scanned.records g.before.counts g.now.counts scanned.printed) same scanned.says) scanned.done in
    let finding : findings ps.found (feeds_of scanned.records) ≡ fs.found =
    packages_found known.stored image.seals scanned.records ps.found fs.found of (of_stored _ _ known.stored known.are fs.of) in
    let bytes : list ++ records ≡ list_text image.hash ps.found ++ LF ∷ records = ap (λ xs. xs ++ records) listing ∙ append_assoc (list_text image.hash ps.found) (LF ∷ []) records in
    let lists = has_answered list_or Records no_list_text SaysList UsesNoDesk (streams l.before.remaining l.before.written) (streams l.now.remaining l.now.written) l.ends in
    let line = first_line list_or Records (list_text image.hash ps.found) records lists.first lists.records
    (plain_line (list_text image.hash ps.found) (list_plain image.hash ps.found)) (of_known _ l.before.remaining _ (l.read ∙ ap Some bytes) lists.request) in
    let read : lists.first ≡ list_with (Some image.hash) ps.found 0 =
    list_is image.hash ps.found lists.first line.read ps.back (image_below known.stored image.seals ps.found of) in
    let recs : lists.records ≡ scanned.records = line.found ∙ sym begun.found in (
      image.hash,
      fs.found,
      all_written g.before.written g.now.written found scanned.printed.text g.empty g.wrote scanned.appended ∙ fs.line,
      all_written l.before.written l.now.written listed lists.printed.text l.empty l.wrote lists.appended
          ∙ ap (λ (p : Printed). p.text) lists.says.1
          ∙ (λ i. list_good_text (read i).image (findings (read i).packages (feeds_of (recs i))) (read i).skipped)
          ∙ ap (λ (xs : List Finding). list_good_text (Some image.hash) xs 0) (same_findings ps.found (feeds_of scanned.records) ∙ finding),
    )
  where
    of_stored : (P : Layers → Type 0) (known : Option Layers) (stored : Layers) → known ≡ Some stored → IfSome known P → P stored
    of_stored P known stored e h = subst (λ o. IfSome o P) e h
