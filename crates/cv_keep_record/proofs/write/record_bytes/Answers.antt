use Rattle.std.proofs.lemmas.List.Elements.{All-from_recursion}
use Rattle.cv_keep_record.specs.Record.{Fits}
use Rattle.cv_keep_record.proofs.write.record_bytes.Goals as goal

pub push_event-requires : goal.push_event-requires
push_event-requires c =
    rw c.event-item.is (All-from_recursion Fits c.args.events.now c.requires.fit c.loop-event.event-index _ c.loop-event-test.true)
