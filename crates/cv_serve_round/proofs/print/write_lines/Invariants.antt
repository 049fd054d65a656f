-- The lines so far are written.
use Rattle.std.specs.Prelude.{◌≤◌, string_bytes, take}
use Rattle.std.specs.Io.KnownBytes.{Appends}
use Rattle.std.specs.List.{flat_map}
use Rattle.cv_serve_round.proofs.print.write_lines.Given as goal

abbrev pub invariant-loop-line : goal.invariant-loop-line
invariant-loop-line g l = record {
  written : Appends (g.K.Sink.contents l.fn.output) (g.K.Sink.contents l.output) (flat_map (λ line. string_bytes line) (take l.line-index l.lines));
  later : g.K.Sink.faults l.fn.output ≤ g.K.Sink.faults l.output;
}
