-- The records so far are those of the numbers so far.
use Rattle.std.proofs.Common.{◌≡◌, map, filter}
use Rattle.serde_json.specs.View.{view}
use Rattle.cv_drill.specs.Lines.{numbers}
use Rattle.cv_drill.specs.Records.{is_kept, record_data}
use Rattle.cv_drill.proofs.record.records_value.Given as goal

abbrev pub invariant-loop-number : goal.invariant-loop-number
invariant-loop-number l = map view l.items.items ≡ map (record_data l.update) (filter (is_kept l.update) (numbers l.number))
