use Rattle.std.proofs.Common.{sym}
use Rattle.cv_keep_replay.proofs.ReadyEvents.{no_acts, none_found}
use Rattle.cv_keep_replay.proofs.ready.ready_events.Goals as goal

-- this event is none of the machine
pub returns-in-None-clause-none : goal.returns-in-None-clause-none
returns-in-None-clause-none g c = λ acts have.
    no_acts c.args.events.now c.loop-event.event-index c.event-item.result acts c.loop-event-test.true (sym c.event-item.is)
    (none_found _ c.in_ok-one.field-0 _ c.in-None.is c.in_ok-one.ensures.act) have
