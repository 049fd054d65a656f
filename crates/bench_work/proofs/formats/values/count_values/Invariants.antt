use Rattle.std.proofs.Common.{◌≡◌, false}
use Rattle.cv_io.specs.Reader.{room_of}
use Rattle.bench_work.proofs.formats.values.count_values.Given as goal

abbrev pub invariant-loop-reader : goal.invariant-loop-reader
invariant-loop-reader g l = l.reader.spent ≡ false

abbrev pub decreases-loop-reader : goal.decreases-loop-reader
decreases-loop-reader g l = room_of l.reader
