-- What a component list that was written is read as.
use Rattle.std.proofs.Common.{◌≡◌, ℕ, true, List, [], ◌∷◌, map, Some, refl, ap, subst}
use Rattle.std.specs.Prelude.{Err, IfOk, Ok, Result, length}
use Rattle.std.specs.List.{AllByRecursion, list_all}
use Rattle.std.specs.Str.{IsUtf8}
use Rattle.std.proofs.lemmas.Bool.{and_parts}
use Rattle.std.proofs.lemmas.Str.{is_utf8-from_IsUtf8}
use Rattle.hex.specs.Hex.{IsBytes}
use Rattle.serde_json.specs.View.{items_of}
use Rattle.serde_json.specs.Written.{compact_text}
use Rattle.cv_base.specs.Path.{path_text}
use Rattle.cv_base.specs.declared.package.Package.{Package}
use Rattle.cv_base.specs.declared.package.PackageKind.{PackageKind}
use Rattle.cv_base.specs.declared.package.PackageKind.TheVariants.{Deb, Apk, Npm, Pypi}
use Rattle.cv_base.proofs.DigestLemmas.{read_back}
use Rattle.cv_path.proofs.PathReads.{reads_back}
use Rattle.cv_scan_output.specs.Finding.{kind_text}
use Rattle.cv_sbom.specs.Component.{Texts, kind_of, package_in, texts_of}
use Rattle.cv_sbom.specs.ListRead.{list_in, list_read, list_with, packages_in, skipped_in}
use Rattle.cv_sbom.specs.ListText.{component_data, list_data, list_text}
use Rattle.cv_sbom.specs.Listable.{ArePlaced, HasPath, IsDigest, IsPlaced, is_below_top}
use Rattle.cv_sbom.proofs.Printed.{list_printed}

-- a kind by its printed name
kind_back : (kind : PackageKind) → kind_of (kind_text kind) ≡ Some kind
kind_back Deb = refl
kind_back Apk = refl
kind_back Npm = refl
kind_back Pypi = refl

-- the texts that a package is written with
abbrev texts_by : Package → Texts
texts_by p = record {
  name = p.name;
  version = p.version;
  arch = p.arch;
  ecosystem = p.ecosystem;
  kind = kind_text p.kind;
  path = path_text p.path;
  source = p.source;
  source_version = p.source_version;
}

texts_back : (p : Package) → texts_of (component_data p) ≡ Some (texts_by p)
unfolding texts_of
texts_back p = refl

-- a component that a package was written as
package_back : (p : Package) → IsPlaced p → package_in (component_data p) ≡ Some p
unfolding package_in
package_back p placed = rw (texts_back p, kind_back p.kind, reads_back p.path placed.path placed.below_top) refl

packages_back : (packages : List Package) → ArePlaced packages → packages_in (items_of (map component_data packages)) ≡ packages
packages_back [] placed = refl
packages_back (p ∷ ps) placed = rw (package_back p placed.0) (ap (λ qs. p ∷ qs) (packages_back ps placed.1))

none_skipped : (packages : List Package) → ArePlaced packages → skipped_in (items_of (map component_data packages)) ≡ 0
none_skipped [] placed = refl
none_skipped (p ∷ ps) placed = rw (package_back p placed.0) (none_skipped ps placed.1)

-- the value of a list that was written
list_back : (image : List ℕ) (packages : List Package) → IsDigest image → ArePlaced packages → list_in (list_data image packages) ≡ Ok (list_with (Some image) packages 0)
unfolding list_in
list_back image packages digest placed = rw (read_back image digest.count digest.bytes, packages_back packages placed, none_skipped packages placed) refl

-- a list that was written, if its text is UTF-8
pub text_back : (image : List ℕ) (packages : List Package) → IsDigest image → ArePlaced packages → IsUtf8 (list_text image packages)
    → list_read (list_text image packages) ≡ Ok (list_with (Some image) packages 0)
unfolding list_read
text_back image packages digest placed utf8 =
    rw (is_utf8-from_IsUtf8 (list_text image packages) utf8, list_printed image packages, list_back image packages digest placed) refl

placed_by : (packages : List Package) → AllByRecursion HasPath packages → list_all is_below_top packages ≡ true → ArePlaced packages
placed_by [] h k = tt
placed_by (p ∷ ps) h k =
    let both = and_parts (is_below_top p) (list_all is_below_top ps) k in
    (record { path = h.0; below_top = both.0 }, placed_by ps h.1 both.1)

-- a list that was written, as the code knows it
pub written_back : (image : List ℕ) (packages : List Package) (text : List ℕ) → length image ≡ 32 → IsBytes image → AllByRecursion HasPath packages → IsUtf8 text
    → text ≡ compact_text (list_data image packages) → list_all is_below_top packages ≡ true → list_read (list_text image packages) ≡ Ok (list_with (Some image) packages 0)
unfolding list_text
written_back image packages text count bytes paths utf8 same low =
    text_back image packages (record { count = count; bytes = bytes }) (placed_by packages paths low) (subst IsUtf8 same utf8)

-- what holds whatever a call returned
pub always : {T E : Type 0} (r : Result T E) (Q : Type 0) → Q → IfOk r (λ _. Q)
always (Ok x) Q q = q
always (Err e) Q q = tt
