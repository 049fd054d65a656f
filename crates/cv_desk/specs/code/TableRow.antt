-- A row of a table in the program, as plain data.
use Rattle.cv_desk.specs.Row.{Row}
use Rattle.cv_desk.specs.Stored.{Stored}
use Rattle.cv_desk.specs.Table.{item_of}
use Rattle.cv_desk.specs.declared.table.Entry.{Entry}
use Rattle.cv_desk.specs.declared.table.TableEntry.{TableEntry}

-- a row as the code holds it
abbrev pub row_of : TableEntry → Row
row_of e = record { path = e.path.now; kind = e.kind; bytes = e.bytes.now }

-- an entry of a row that was read
abbrev pub stored_of : Entry → Stored
stored_of e = record { path = e.path; item = item_of e.kind e.bytes.now }
