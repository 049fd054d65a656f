use Rattle.std.proofs.Common.{◌≡◌, take}
use Rattle.std.specs.List.{AllByRecursion, flat_map}
use Rattle.cv_keep_record.specs.Record.{Fits, kept_bytes}
use Rattle.cv_keep_rounds.specs.code.Events.{kept_events}
use Rattle.cv_keep_rounds.proofs.bytes.round_bytes.Given as goal

-- the bytes of the events so far, and each of them fits
abbrev pub invariant-loop-entry : goal.invariant-loop-entry
invariant-loop-entry l =
    let events = kept_events l.noted (take l.entry-index l.entries) in
    (l.bytes.items ≡ flat_map kept_bytes events) × AllByRecursion Fits events
