use Rattle.std.proofs.Common.{◌≡◌, ◌+◌, ◌^◌, ◌≤◌, false}
use Rattle.cv_io.specs.Reader.{reading, room_of}
use Rattle.bench_work.proofs.Remaining.{Remaining}
use Rattle.bench_work.proofs.formats.lines.count_lines.Given as goal

abbrev pub invariant-loop-reader : goal.invariant-loop-reader
invariant-loop-reader g l = record {
  not_spent : l.reader.spent ≡ false;
  bound : l.lines + room_of l.reader ≤ 2 ^ 36;
  remaining : Remaining (reading l.initial.reader (g.S.Source.remaining l.initial.input)) (reading l.reader (g.S.Source.remaining l.input)) l.lines;
  later : g.S.Source.faults l.initial.input ≤ g.S.Source.faults l.input;
}

abbrev pub decreases-loop-reader : goal.decreases-loop-reader
decreases-loop-reader g l = room_of l.reader
