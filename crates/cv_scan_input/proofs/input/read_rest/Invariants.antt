-- The records so far, with the lines that are not yet read, are all, and each line took of the room.
use Rattle.std.specs.Prelude.{◌≡◌, ◌+◌, ◌^◌, ◌≤◌, true, false}
use Rattle.std.specs.Io.KnownBytes.{IsAtEnd}
use Rattle.cv_io.specs.Reader.{reading, room_of}
use Rattle.cv_scan_input.specs.code.Accepted.{Accepted}
use Rattle.cv_scan_input.specs.code.TakenParts.{IsTakenTo}
use Rattle.cv_scan_input.proofs.Progress.{Progress}
use Rattle.cv_scan_input.proofs.input.read_rest.Given as goal

abbrev pub invariant-loop-records : goal.invariant-loop-records
invariant-loop-records g l = record {
  not_spent : l.reader.spent ≡ false;
  request : Progress g.I.InputKind.further l.fn.first (reading l.fn.reader (g.S.Source.remaining l.fn.input)) (reading l.reader (g.S.Source.remaining l.input)) l.records (l.number + 1);
  before : l.reader.ended ≡ false → l.fn.reader.ended ≡ false;
  accepted : l.reader.ended ≡ false → Accepted g.I.InputKind.further l.fn.first l.fn.reader l.reader l.records (l.number + 1) (g.S.Source.remaining l.fn.input) (g.S.Source.remaining l.input);
  limit : l.reader.max_line ≡ 67108864;
  inputs : l.reader.max_input ≡ 2 ^ 36;
  taken : IsTakenTo l.fn.reader.taken l.reader.taken (g.S.Source.remaining l.fn.input) (g.S.Source.remaining l.input);
  seen : l.reader.ended ≡ true → IsAtEnd (g.S.Source.remaining l.input);
  room : l.number + room_of l.reader ≤ 2 ^ 36 + 1;
  later : g.S.Source.faults l.fn.input ≤ g.S.Source.faults l.input;
}

abbrev pub decreases-loop-records : goal.decreases-loop-records
decreases-loop-records g l = room_of l.reader
