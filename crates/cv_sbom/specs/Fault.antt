-- The fault of a line as a component list, apart from out of memory, which is no fault of the line (defined by this project).
use Rattle.std.specs.Prelude.{Option, Some, None, Result, Ok, Err}
use Rattle.cv_sbom.specs.declared.error.ListError.{ListError}
use Rattle.cv_sbom.specs.declared.error.ListError.TheVariants as error
use Rattle.cv_sbom.specs.declared.error.ListFault.{ListFault}
use Rattle.cv_sbom.specs.declared.error.ListFault.TheVariants as fault
use Rattle.cv_sbom.specs.declared.error.ListWhat.{ListWhat}

-- the fault of a line by its error: none if the call ran out of memory
abbrev pub fault_of : ListError → Option ListFault
fault_of error.BadJson = Some fault.BadJson
fault_of (error.BadList what) = Some (fault.BadList what)
fault_of error.NoMemory = None

-- what is read, with its fault as that of a line
abbrev pub refusing : {A : Type 0} → Result A ListWhat → Result A ListFault
refusing (Ok x) = Ok x
refusing (Err what) = Err (fault.BadList what)
