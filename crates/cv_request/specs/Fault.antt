-- The fault of a line apart from out of memory, which is no fault of the line (defined by this project).
use Rattle.std.specs.Prelude.{Option, Some, None, Result, Ok, Err}
use Rattle.cv_osv.specs.Records.{ListFault}
use Rattle.cv_osv.specs.Records as list
use Rattle.cv_request.specs.declared.error.RequestError.{RequestError}
use Rattle.cv_request.specs.declared.error.RequestError.TheVariants as error
use Rattle.cv_request.specs.declared.error.RequestFault.{RequestFault}
use Rattle.cv_request.specs.declared.error.RequestFault.TheVariants as fault
use Rattle.cv_request.specs.declared.error.RequestWhat.{RequestWhat}
use Rattle.cv_request.specs.declared.error.RequestWhat.TheVariants.{BadAdvisories}

-- the fault of a line by its error: none if the call ran out of memory
abbrev pub fault_of : RequestError → Option RequestFault
fault_of error.BadJson = Some fault.BadJson
fault_of (error.BadRequest what) = Some (fault.BadRequest what)
fault_of (error.BadAdvisory index what) = Some (fault.BadAdvisory index what)
fault_of (error.DuplicateId first second) = Some (fault.DuplicateId first second)
fault_of error.TooManyAdvisories = Some fault.TooManyAdvisories
fault_of error.NoMemory = None

-- the error that says a fault
abbrev pub error_of : RequestFault → RequestError
error_of fault.BadJson = error.BadJson
error_of (fault.BadRequest what) = error.BadRequest what
error_of (fault.BadAdvisory index what) = error.BadAdvisory index what
error_of (fault.DuplicateId first second) = error.DuplicateId first second
error_of fault.TooManyAdvisories = error.TooManyAdvisories

-- what is read, with its fault as that of a line
abbrev pub refusing : {A : Type 0} → Result A RequestWhat → Result A RequestFault
refusing (Ok x) = Ok x
refusing (Err what) = Err (fault.BadRequest what)

-- the fault of a list of records as that of a line
abbrev pub list_fault : ListFault → RequestFault
list_fault list.NotList = fault.BadRequest BadAdvisories
list_fault list.TooMany = fault.TooManyAdvisories
list_fault (list.BadAdvisory index what) = fault.BadAdvisory index what
list_fault (list.DuplicateId first second) = fault.DuplicateId first second

-- a list that is read, with its fault as that of a line
abbrev pub listing : {A : Type 0} → Result A ListFault → Result A RequestFault
listing (Ok x) = Ok x
listing (Err bad) = Err (list_fault bad)
