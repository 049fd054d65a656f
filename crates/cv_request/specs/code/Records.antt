-- The error of records as that of a line.
use Rattle.cv_osv.specs.declared.error.OsvError.{OsvError}
use Rattle.cv_osv.specs.declared.error.OsvError.TheVariants as osv
use Rattle.cv_request.specs.declared.error.RequestError.{RequestError}
use Rattle.cv_request.specs.declared.error.RequestError.TheVariants as error
use Rattle.cv_request.specs.declared.error.RequestWhat.TheVariants.{BadAdvisories}

-- an error of records
abbrev pub requested : OsvError → RequestError
requested osv.NotList = error.BadRequest BadAdvisories
requested osv.TooMany = error.TooManyAdvisories
requested (osv.BadAdvisory index what) = error.BadAdvisory index what
requested (osv.DuplicateId first second) = error.DuplicateId first second
requested osv.NoMemory = error.NoMemory
