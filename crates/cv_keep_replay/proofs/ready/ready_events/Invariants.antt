-- The events so far are ready.
use Rattle.std.specs.Prelude.{map, take}
use Rattle.std.specs.List.{AllByRecursion}
use Rattle.cv_keep_replay.specs.code.Ready.{AreFor, IsPrepared, named_of}
use Rattle.cv_keep_replay.proofs.ready.ready_events.Given as goal

abbrev pub invariant-loop-event : goal.invariant-loop-event
invariant-loop-event g l = record {
  ready : AreFor (take l.event-index l.events) (map named_of l.ready.items);
  prepared : AllByRecursion (λ one. IsPrepared one) l.ready.items;
}
