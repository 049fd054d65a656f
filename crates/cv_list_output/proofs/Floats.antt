-- No number of a line has a point.
use Rattle.std.proofs.Common.{◌≡◌, ℕ, false, List, refl}
use Rattle.std.specs.Prelude.{Option, Some, None}
use Rattle.serde_json.specs.Written.{has_float}
use Rattle.cv_base.specs.declared.finding.Finding.{Finding}
use Rattle.cv_sbom.specs.declared.error.ListWhat.{ListWhat}
use Rattle.cv_sbom.specs.declared.error.ListWhat.TheVariants.{NotObject, BadFormat, BadComponents}
use Rattle.cv_list_output.specs.Fault.{bad_list_data}
use Rattle.cv_scan_output.proofs.Floats.{findings_have_none}
use Rattle.cv_list_output.specs.Good.{image_data, list_good_data}

image_has_none : (image : Option (List ℕ)) → has_float (image_data image) ≡ false
image_has_none None = refl
image_has_none (Some text) = refl

pub list_has_none : (image : Option (List ℕ)) (fs : List Finding) (skipped : ℕ) → has_float (list_good_data image fs skipped) ≡ false
list_has_none image fs skipped = rw (findings_have_none fs, image_has_none image) refl

pub bad_list_has_none : (line : ℕ) (what : ListWhat) → has_float (bad_list_data line what) ≡ false
bad_list_has_none line NotObject = refl
bad_list_has_none line BadFormat = refl
bad_list_has_none line BadComponents = refl
