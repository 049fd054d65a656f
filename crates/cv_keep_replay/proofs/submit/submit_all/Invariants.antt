-- The events so far are submitted.
use Rattle.std.specs.Prelude.{◌≡◌, ◌+◌, ◌≤◌, ◌<◌, ◌^◌, ◌++◌, length, map}
use Rattle.cv_keep_replay.specs.Kept.{index_count}
use Rattle.cv_keep_replay.specs.code.Alone.{Submitted}
use Rattle.cv_keep_replay.specs.code.Ready.{acts_named, named_of}
use Rattle.cv_keep_replay.proofs.submit.submit_all.Given as goal

abbrev pub invariant-loop-event : goal.invariant-loop-event
invariant-loop-event g l = record {
  split : l.yielded ++ l.event-iterator.rest.items ≡ l.fn.events.items;
  submitted : Submitted l.fn.seat l.seat (map named_of l.yielded);
  listed : g.D.Desk.listings l.desk ≡ g.D.Desk.listings l.fn.desk + index_count (acts_named (map named_of l.yielded));
  room : g.D.Desk.listings l.desk < 2 ^ 62 + length l.seat.list;
  later : g.D.Desk.faults l.fn.desk ≤ g.D.Desk.faults l.desk;
}
