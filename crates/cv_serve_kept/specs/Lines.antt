-- The first line that a kept service writes, as JSON with an LF (defined by this project).
use Rattle.std.specs.Prelude.{ℕ, List, codes}
use Rattle.serde_json.specs.Data.{Data, no_members, member, number, object, string, unsigned}
use Rattle.cv_scan_output.specs.Line.{line_text}

-- the service goes on after this many events, and in this generation: `{"events":3,"generation":0,"reply":"resumed"}`
abbrev pub resumed_data : ℕ → ℕ → Data
resumed_data events generation =
    object (member (codes "events") (number (unsigned events))
    (member (codes "generation") (number (unsigned generation))
    (member (codes "reply") (string (codes "resumed")) no_members)))

unfoldable pub resumed_text : ℕ → ℕ → List ℕ
resumed_text events generation = line_text (resumed_data events generation)

-- the record of this number, from 0, is bad: `{"record":0,"refused":"bad_keep"}`
abbrev pub bad_keep_data : ℕ → Data
bad_keep_data place =
    object (member (codes "record") (number (unsigned place))
    (member (codes "refused") (string (codes "bad_keep")) no_members))

unfoldable pub bad_keep_text : ℕ → List ℕ
bad_keep_text place = line_text (bad_keep_data place)
