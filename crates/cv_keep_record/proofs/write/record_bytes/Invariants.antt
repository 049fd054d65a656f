use Rattle.std.proofs.Common.{◌≡◌, take}
use Rattle.std.specs.List.{flat_map}
use Rattle.cv_keep_record.specs.Record.{kept_bytes}
use Rattle.cv_keep_record.proofs.write.record_bytes.Given as goal

-- the bytes of the events so far
abbrev pub invariant-loop-event : goal.invariant-loop-event
invariant-loop-event l = l.bytes.items ≡ flat_map kept_bytes (take l.event-index l.events)
