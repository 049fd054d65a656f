-- The fault of a list of records by the error of a call (defined by this project).
use Rattle.std.specs.Prelude.{Option, Some, None}
use Rattle.cv_osv.specs.Records.{ListFault}
use Rattle.cv_osv.specs.Records as list
use Rattle.cv_osv.specs.declared.error.OsvError.{OsvError}
use Rattle.cv_osv.specs.declared.error.OsvError.TheVariants as osv

-- the fault of a list by its error: none if the call ran out of memory
abbrev pub fault_of : OsvError → Option ListFault
fault_of osv.NotList = Some list.NotList
fault_of osv.TooMany = Some list.TooMany
fault_of (osv.BadAdvisory index what) = Some (list.BadAdvisory index what)
fault_of (osv.DuplicateId first second) = Some (list.DuplicateId first second)
fault_of osv.NoMemory = None
