-- The refusal of a list of records as that of a line.
use Rattle.std.specs.Prelude.{◌≡◌, List, IfSome, Result, Err}
use Rattle.std.proofs.Common.{ap}
use Rattle.cv_base.specs.declared.advisory.Advisory.{Advisory}
use Rattle.cv_osv.specs.Answer as osv
use Rattle.cv_osv.specs.Records.{ListFault}
use Rattle.cv_osv.specs.declared.error.OsvError.{OsvError}
use Rattle.cv_osv.specs.declared.error.OsvError.TheVariants as error
use Rattle.cv_request.specs.Fault.{fault_of, listing}
use Rattle.cv_request.specs.code.Records.{requested}

-- a list that is refused refuses the line
pub records_fail : (e : OsvError) (read : Result (List Advisory) ListFault) → IfSome (osv.fault_of e) (λ fault. read ≡ Err fault)
    → IfSome (fault_of (requested e)) (λ fault. listing read ≡ Err fault)
records_fail error.NotList read h = ap listing h
records_fail error.TooMany read h = ap listing h
records_fail (error.BadAdvisory index what) read h = ap listing h
records_fail (error.DuplicateId first second) read h = ap listing h
records_fail error.NoMemory read h = h
