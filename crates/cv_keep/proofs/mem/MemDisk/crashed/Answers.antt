use Rattle.std.proofs.Common.{◌≡◌, ◌<◌, List, length, get_or, take, ap, sym, ◌∙◌, subst, arith}
use Rattle.cv_keep.specs.Memory.{DiskState, MayLeave, MemoryDisk, run, start}
use Rattle.cv_keep.specs.declared.call.Call.{Call}
use Rattle.cv_keep.proofs.MemoryLemmas.{run_more}
use Rattle.cv_keep.proofs.mem.MemDisk.crashed.Goals as goal

pub loop-call-preserved : goal.loop-call-preserved
loop-call-preserved c =
    let first = start c.args.self.now.first in
    let calls = c.args.self.now.calls in
    let index = c.loop-call.call-index in
    let call = c.call-item.result in
    let list_is : c.deref-call-items.result.now ≡ calls = c.deref-call-items.ensures.value ∙ ap (λ (d : MemoryDisk). d.calls) c.self.view_is in
    let inside : index < length calls = omega (arith, c.loop-call-test.true, ap length list_is) in
    let is : call ≡ get_or calls index call = c.call-item.is ∙ ap (λ (l : List Call). get_or l index call) list_is in
    let more = run_more first calls index call inside is in
    let next = c.in_ok-spoil.ensures (run first (take index calls)) c.loop-call.invariant.bytes c.loop-call.invariant.image in
    record {
      bytes = ap (λ (s : DiskState). s.bytes) more ∙ next.0;
      image = subst (λ (s : DiskState). MayLeave s c.spoil.new.image) (sym more) next.1;
    }
