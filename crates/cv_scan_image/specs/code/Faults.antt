-- Layers that were not indexed.
use Rattle.cv_desk.specs.declared.desk.DeskFault.{DeskFault}
use Rattle.cv_desk.specs.declared.desk.DeskFault.TheVariants as desk
use Rattle.cv_facts.specs.declared.error.IndexError.{IndexError}
use Rattle.cv_facts.specs.declared.error.IndexError.TheVariants as error

-- why the desk did not give a layer
abbrev pub desk_fault : IndexError → DeskFault
desk_fault error.DeskFault = desk.Failed
desk_fault error.NoMemory = desk.NoMemory
