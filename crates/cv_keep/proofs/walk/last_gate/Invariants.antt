use Rattle.std.proofs.Common.{◌≡◌, ◌≤◌, ◌-◌, IfSome}
use Rattle.cv_keep.specs.Disk.{Advances, IsSame}
use Rattle.cv_keep.specs.code.Walk.{IsWalked}
use Rattle.cv_keep.proofs.walk.last_gate.Given as goal

abbrev pub invariant-loop-next : goal.invariant-loop-next
invariant-loop-next g l = record {
  contents : g.J.Disk.contents l.disk ≡ g.J.Disk.contents l.fn.disk;
  syncs : g.J.Disk.syncs l.disk ≡ g.J.Disk.syncs l.fn.disk;
  crash : Advances IsSame (g.J.Disk.moment l.fn.disk) (g.J.Disk.moment l.disk) (g.J.Disk.may_leave l.fn.disk) (g.J.Disk.may_leave l.disk);
  faults : g.J.Disk.faults l.fn.disk ≤ g.J.Disk.faults l.disk;
  within : l.gate ≤ l.last;
  walked : IfSome (g.J.Disk.contents l.fn.disk) (λ b. IsWalked b l.gate);
}

abbrev pub decreases-loop-next : goal.decreases-loop-next
decreases-loop-next g l = l.last - l.gate
