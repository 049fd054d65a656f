-- An entry of a generated layer as the code holds it.
use Rattle.std.specs.Prelude.{Option, Some, None, string_bytes, String}
use Rattle.cv_desk.specs.Stored.{Item, Dir, File, Stored}
use Rattle.cv_desk_drill.specs.declared.generated.GenEntry.{GenEntry}

-- a directory has no text, and a file has one
abbrev pub item_of_text : {Z : Type 0} → Option (String Z) → Item
item_of_text None = Dir
item_of_text (Some text) = File (string_bytes text)

-- an entry as it is stored
abbrev pub made : GenEntry → Stored
made e = record { path = e.path; item = item_of_text e.text }
