-- The lines so far.
use Rattle.std.proofs.Common.{◌≡◌, take}
use Rattle.std.specs.List.{AllByRecursion, flat_map}
use Rattle.cv_serve_pushed.specs.HookText.{HasNoTag, hook_text}
use Rattle.cv_serve_pushed.proofs.rounds.bytes_of.Given as goal

abbrev pub invariant-loop-line : goal.invariant-loop-line
invariant-loop-line l = record {
  text : l.bytes.items ≡ flat_map hook_text (take l.line-index l.lines);
  untagged : AllByRecursion HasNoTag (take l.line-index l.lines);
}
