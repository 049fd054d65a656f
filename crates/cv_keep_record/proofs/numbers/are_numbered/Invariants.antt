use Rattle.std.proofs.Common.{◌↔◌, drop}
use Rattle.cv_keep_record.specs.Record.{AreNumberedFrom}
use Rattle.cv_keep_record.proofs.numbers.are_numbered.Given as goal

-- all numbers go on exactly if those of the rest do
abbrev pub invariant-loop-event : goal.invariant-loop-event
invariant-loop-event l = AreNumberedFrom l.last (drop l.event-index l.events) ↔ AreNumberedFrom l.count l.events
