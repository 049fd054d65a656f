use Rattle.std.proofs.Common.{◌≡◌, length, map}
use Rattle.cv_match_range.specs.code.Reading.{onto, read_events}
use Rattle.cv_match_range.specs.ReadRange.{event_text}
use Rattle.cv_match_range.proofs.reading.read_events.Given as goal

-- what was read, before what is read of those that remain, is what is read of all
abbrev pub invariant-loop-remaining : goal.invariant-loop-remaining
invariant-loop-remaining g l =
    onto (map (event_text g.V.Version.text) l.events.items) (read_events g.V.Version.kind l.remaining) ≡ read_events g.V.Version.kind l.fn.turns

abbrev pub decreases-loop-remaining : goal.decreases-loop-remaining
decreases-loop-remaining g l = length l.remaining
