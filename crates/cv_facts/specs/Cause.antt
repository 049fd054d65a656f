-- Which answers blame the desk, and the answer to its fault (defined by this project).
use Rattle.std.specs.Prelude.{Bool, true, false, Result, Ok, Err}
use Rattle.cv_desk.specs.declared.desk.DeskFault.{DeskFault}
use Rattle.cv_desk.specs.declared.desk.DeskFault.TheVariants as desk
use Rattle.cv_facts.specs.declared.error.IndexError.{IndexError}
use Rattle.cv_facts.specs.declared.error.IndexError.TheVariants as error

-- a layer was not indexed because the desk failed
abbrev pub is_desk_fault : {A : Type 0} → Result A IndexError → Bool
is_desk_fault (Ok x) = false
is_desk_fault (Err error.DeskFault) = true
is_desk_fault (Err error.NoMemory) = false

-- the answer to a desk's fault
abbrev pub index_error : DeskFault → IndexError
index_error desk.Failed = error.DeskFault
index_error desk.NoMemory = error.NoMemory
