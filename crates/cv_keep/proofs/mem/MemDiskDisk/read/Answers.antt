use Rattle.std.proofs.Common.{length, sym, ap, arith}
use Rattle.std.proofs.lemmas.List.{length-take-le}
use Rattle.cv_keep.proofs.MemoryLemmas.{look_length}
use Rattle.cv_keep.proofs.mem.MemDiskDisk.read.Goals as goal

pub slice_bounds-copy_from_slice-end : goal.slice_bounds-copy_from_slice-end
slice_bounds-copy_from_slice-end c =
    let same = look_length c.args.self.now c.look.new.self c.look.result c.look.ensures.recorded in
    sym (length-take-le (length c.args.buf.now) c.split_at.result.1.now (omega (arith, same, c.requires.inside, c.split_at.ensures.back_len, ap length c.bytes.ensures)))

pub copy_from_slice-requires : goal.copy_from_slice-requires
copy_from_slice-requires c =
    let same = look_length c.args.self.now c.look.new.self c.look.result c.look.ensures.recorded in
    sym (length-take-le (length c.args.buf.now) c.split_at.result.1.now (omega (arith, same, c.requires.inside, c.split_at.ensures.back_len, ap length c.bytes.ensures)))
