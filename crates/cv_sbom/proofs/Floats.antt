-- No number of a component list has a point.
use Rattle.std.proofs.Common.{◌≡◌, ℕ, false, List, [], ◌∷◌, map, refl}
use Rattle.serde_json.specs.View.{items_of}
use Rattle.serde_json.specs.Written.{has_float, items_have_float}
use Rattle.cv_base.specs.declared.package.Package.{Package}
use Rattle.cv_sbom.specs.ListText.{component_data, list_data}

components_have_none : (packages : List Package) → items_have_float (items_of (map component_data packages)) ≡ false
components_have_none [] = refl
components_have_none (p ∷ ps) = components_have_none ps

pub list_has_none : (image : List ℕ) (packages : List Package) → has_float (list_data image packages) ≡ false
list_has_none image packages = rw (components_have_none packages) refl
