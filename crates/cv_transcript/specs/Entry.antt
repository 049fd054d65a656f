-- The lines of a transcript (defined by this project): refused lines, events and reads.
use Rattle.std.specs.Prelude.{ℕ, List}
use Rattle.serde_json.specs.Data.{Data}
use Rattle.serde_json.specs.Written.{compact_text}
use Rattle.cv_transcript.specs.declared.entry.Entry.{Entry}
use Rattle.cv_transcript.specs.declared.entry.Entry.TheVariants.{Refused, Event, Read}
use Rattle.cv_transcript.specs.Event.{event_data}
use Rattle.cv_scan_output.specs.Line.{line_text}
use Rattle.cv_transcript.specs.Read.{read_data}
use Rattle.cv_scan_output.specs.Refusal.{refusal_data}

-- the JSON value of an entry
abbrev pub entry_data : Entry → Data
entry_data (Refused line error) = refusal_data line error
entry_data (Event entry) = event_data entry
entry_data (Read entry) = read_data entry

-- the JSON text of an entry, which has no LF
unfoldable pub entry_json : Entry → List ℕ
entry_json entry = compact_text (entry_data entry)

-- the line of an entry
unfoldable pub entry_text : Entry → List ℕ
entry_text entry = line_text (entry_data entry)
