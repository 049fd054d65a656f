-- Entries as lines.
use Rattle.std.specs.Prelude.{◌≡◌, Some}
use Rattle.cv_transcript.specs.Entry.{entry_json}
use Rattle.cv_transcript.specs.Tag.{entry_tag, tag_of_json}
use Rattle.cv_transcript.specs.declared.entry.Entry.{Entry}

-- the line of an entry, read as JSON, has its tag
abbrev pub HasTag : Entry → Type 0
HasTag entry = tag_of_json (entry_json entry) ≡ Some (entry_tag entry)
