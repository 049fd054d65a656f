-- What an error says besides being out of memory.
use Rattle.std.specs.Prelude.{Option, None, Some}
use Rattle.cv_base.specs.declared.fault.FileBad.{FileBad}
use Rattle.cv_base.specs.declared.fault.ReadBad.{ReadBad}
use Rattle.cv_base.specs.declared.fault.ReadBad.TheVariants as reading

-- the bad line that kept a package database from being read, if it was one
abbrev pub read_fault : ReadBad → Option FileBad
read_fault (reading.Bad fault) = Some fault
read_fault reading.NoMemory = None
