-- No number of the line of a refused line has a point.
use Rattle.std.proofs.Common.{◌≡◌, ℕ, false, refl}
use Rattle.serde_json.specs.Data.{Data}
use Rattle.serde_json.specs.Written.{has_float}
use Rattle.cv_request.specs.declared.error.RequestError.{RequestError}
use Rattle.cv_request.specs.declared.error.RequestError.TheVariants.{BadJson, BadRequest, BadAdvisory, DuplicateId, TooManyAdvisories, NoMemory}
use Rattle.cv_request.specs.declared.error.RequestWhat.{RequestWhat}
use Rattle.cv_scan_output.specs.Refusal.{bad_request_data, refusal_data}
use Rattle.cv_scan_output.proofs.Requests.{each_request}

request_has_none : (line : ℕ) (what : RequestWhat) → has_float (bad_request_data line what) ≡ false
request_has_none line what = each_request (λ (d : Data). has_float d ≡ false) line (λ index name. refl) (λ name. refl) what

pub refusal_has_none : (line : ℕ) (error : RequestError) → has_float (refusal_data line error) ≡ false
refusal_has_none line BadJson = refl
refusal_has_none line (BadRequest what) = request_has_none line what
refusal_has_none line (BadAdvisory index what) = refl
refusal_has_none line (DuplicateId first second) = refl
refusal_has_none line TooManyAdvisories = refl
refusal_has_none line NoMemory = refl
