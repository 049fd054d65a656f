-- The line of an offer in the output (defined by this project): how it ended, and the number of the notification. Its members stand in
-- the order of their names. A reader takes no tag from it, as from the lines of a round.
use Rattle.std.specs.Prelude.{◌≡◌, ℕ, List, codes, None}
use Rattle.serde_json.specs.Data.{Data, member, no_members, number, object, string, unsigned}
use Rattle.serde_json.specs.Written.{compact_text}
use Rattle.cv_hook.specs.declared.offer.HookLine.{HookLine}
use Rattle.cv_hook.specs.declared.took.Outcome.{Outcome}
use Rattle.cv_hook.specs.declared.took.Outcome.TheVariants as outcome
use Rattle.cv_scan_output.specs.Line.{line_text}
use Rattle.cv_transcript.specs.Tag.{tag_of_json}

-- the printed name of an outcome
abbrev pub outcome_name : Outcome → List ℕ
outcome_name outcome.Taken = codes "taken"
outcome_name outcome.Refused = codes "refused"
outcome_name outcome.Fault = codes "fault"

-- the JSON value of an offer
abbrev pub hook_data : HookLine → Data
hook_data line = object (member (codes "hook") (string (outcome_name line.outcome)) (member (codes "number") (number (unsigned line.number)) no_members))

-- the JSON text of an offer, which has no LF
unfoldable pub hook_json : HookLine → List ℕ
hook_json line = compact_text (hook_data line)

-- the line of an offer, read as JSON, is of no entry of a round
abbrev pub HasNoTag : HookLine → Type 0
HasNoTag line = tag_of_json (hook_json line) ≡ None

-- the line of an offer, with its LF
unfoldable pub hook_text : HookLine → List ℕ
hook_text line = line_text (hook_data line)
