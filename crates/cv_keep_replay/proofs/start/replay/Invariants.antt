-- The records before a gate are replayed, and the disk is as it was.
use Rattle.std.specs.Prelude.{◌≡◌, ◌+◌, ◌≤◌, IfSome}
use Rattle.cv_hub_seats.specs.Events.{IsReplayed, acts_of}
use Rattle.cv_hub_seats.specs.Seats.{AreAllReceipts}
use Rattle.cv_keep.specs.Disk.{IsSame, Steps}
use Rattle.cv_keep.specs.Journal.{Belongs}
use Rattle.cv_keep.specs.Records.{records}
use Rattle.cv_keep_replay.specs.Kept.{index_count}
use Rattle.cv_keep_replay.specs.code.Alone.{IsAlone}
use Rattle.cv_keep_replay.specs.code.Record.{IsReplayedTo, IsResumed}
use Rattle.cv_keep_replay.proofs.start.replay.Given as goal

abbrev pub invariant-loop : goal.invariant-loop
invariant-loop g l =
    ((goal.iterator-loop g).can_next l.iterator' × (goal.iterator-loop g).is_finite l.iterator')
    × record {
      contents : g.J.Disk.contents l.disk ≡ g.J.Disk.contents l.fn.disk;
      belongs : Belongs g.J.Disk.contents g.J.Disk.moment g.J.Disk.may_leave l.journal l.disk;
      syncs : g.J.Disk.syncs l.disk ≡ g.J.Disk.syncs l.fn.disk;
      crash : Steps IsSame g.J.Disk.moment g.J.Disk.may_leave l.fn.disk l.disk;
      disk_later : g.J.Disk.faults l.fn.disk ≤ g.J.Disk.faults l.disk;
      desk_later : g.D.Desk.faults l.fn.desk ≤ g.D.Desk.faults l.desk;
      listed : g.D.Desk.listings l.desk ≡ g.D.Desk.listings l.fn.desk + index_count (acts_of l.hub);
      alone : IsAlone l.hub l.seats;
      receipts : AreAllReceipts l.hub l.seats;
      replayed : IsReplayed g.D.Desk.tree g.L.Identity.limits l.hub;
      resumed : IsResumed g.D.Desk.tree g.L.Identity.limits l.hub l.resumed;
      few : l.count ≤ l.resumed.events;
      to : IfSome (g.J.Disk.contents l.fn.disk) (λ b. IsReplayedTo g.D.Desk.tree g.L.Identity.limits (records b) l.at l.count l.hub);
    }
