-- No number of a line has a point.
use Rattle.std.proofs.Common.{◌≡◌, ℕ, false, List, [], ◌∷◌, refl}
use Rattle.std.specs.Prelude.{Option, Some, None}
use Rattle.serde_json.specs.Data.{Data}
use Rattle.serde_json.specs.Written.{has_float}
use Rattle.cv_base.specs.declared.finding.Finding.{Finding}
use Rattle.cv_scan_output.specs.Finding.{findings_data, fixed_data}
use Rattle.cv_scan_output.specs.Scan.{good_data}
use Rattle.cv_overlay.specs.declared.fault.ImageFault.{ImageFault}
use Rattle.cv_overlay.specs.declared.fault.ImageFault.TheVariants.{NoLayer, BadTree, BadSeal, BadFile, TooLarge}
use Rattle.cv_overlay.specs.declared.fault.TreeFault.{TreeFault}
use Rattle.cv_overlay.specs.declared.fault.TreeFault.TheVariants.{Unsorted, NoParent, BadMark, TooMany}
use Rattle.cv_scan_output.specs.Bad.{bad_data, bad_image_data, bad_tree_data}

fixed_has_none : (fixed : Option (List ℕ)) → has_float (fixed_data fixed) ≡ false
fixed_has_none None = refl
fixed_has_none (Some text) = refl

pub findings_have_none : (fs : List Finding) → has_float (findings_data fs) ≡ false
findings_have_none [] = refl
findings_have_none (f ∷ fs) = rw (fixed_has_none f.fixed) (findings_have_none fs)

pub good_has_none : (image : List ℕ) (fs : List Finding) → has_float (good_data image fs) ≡ false
good_has_none image fs = rw (findings_have_none fs) refl

tree_has_none : (layer : ℕ) (fault : TreeFault) → has_float (bad_tree_data layer fault) ≡ false
tree_has_none layer (Unsorted entry) = refl
tree_has_none layer (NoParent entry) = refl
tree_has_none layer (BadMark entry) = refl
tree_has_none layer TooMany = refl

bad_has_none : (bad : ImageFault) → has_float (bad_data bad) ≡ false
bad_has_none (NoLayer layer) = refl
bad_has_none (BadTree layer fault) = tree_has_none layer fault
bad_has_none (BadSeal layer stated found) = refl
bad_has_none (BadFile path line what) = refl
bad_has_none (TooLarge path) = refl

pub bad_image_has_none : (image : List ℕ) (bad : ImageFault) → has_float (bad_image_data image bad) ≡ false
bad_image_has_none image bad = rw (bad_has_none bad) refl
