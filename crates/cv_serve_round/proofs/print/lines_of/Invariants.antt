-- The lines so far.
use Rattle.std.specs.Prelude.{◌≡◌, map, string_bytes, take}
use Rattle.std.specs.List.{AllByRecursion}
use Rattle.cv_transcript.specs.Entry.{entry_text}
use Rattle.cv_serve_round.specs.Printed.{HasTag}
use Rattle.cv_serve_round.proofs.print.lines_of.Given as goal

abbrev pub invariant-loop-entry : goal.invariant-loop-entry
invariant-loop-entry l = record {
  text : map (λ line. string_bytes line) l.lines.items ≡ map (λ entry. entry_text entry) (take l.entry-index l.entries);
  tags : AllByRecursion HasTag (take l.entry-index l.entries);
}
