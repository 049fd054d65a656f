-- What was written is read back.
use Rattle.std.specs.Prelude.{◌≡◌, ℕ, List, [], ◌∷◌, Ok, Some}
use Rattle.cv_base.specs.declared.package.Package.{Package}
use Rattle.cv_sbom.specs.ListRead.{list_read, list_with}
use Rattle.cv_sbom.specs.ListText.{list_text}
use Rattle.cv_sbom.specs.Listable.{AreListable, ArePlaced, IsDigest}
use Rattle.cv_sbom.proofs.ReadBack.{text_back}
use Rattle.cv_sbom.proofs.Texts.{list_utf8}

placed_of : (packages : List Package) → AreListable packages → ArePlaced packages
placed_of [] h = tt
placed_of (p ∷ ps) h = (h.0.1, placed_of ps h.1)

pub read_back : (image : List ℕ) (packages : List Package) → IsDigest image → AreListable packages → list_read (list_text image packages) ≡ Ok (list_with (Some image) packages 0)
read_back image packages digest h = text_back image packages digest (placed_of packages h) (list_utf8 image packages h)
