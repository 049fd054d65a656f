use Rattle.std.proofs.Common.{◌≡◌, take}
use Rattle.cv_keep.specs.Memory.{MayLeave, run, start}
use Rattle.cv_keep.proofs.mem.MemDisk.crashed.Given as goal

abbrev pub invariant-loop-call : goal.invariant-loop-call
invariant-loop-call l = record {
  bytes : (run (start l.self.first) (take l.call-index l.self.calls)).bytes ≡ l.bytes;
  image : MayLeave (run (start l.self.first) (take l.call-index l.self.calls)) l.image;
}
