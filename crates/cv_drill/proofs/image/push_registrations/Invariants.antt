-- The text so far has the lines of the images so far.
use Rattle.std.proofs.Common.{◌≡◌, ◌++◌, string_bytes}
use Rattle.cv_drill.specs.Lines.{lines_text}
use Rattle.cv_drill.specs.Script.{register_lines}
use Rattle.cv_drill.proofs.image.push_registrations.Given as goal

abbrev pub invariant-loop-index : goal.invariant-loop-index
invariant-loop-index l = string_bytes l.text ≡ string_bytes l.fn.text ++ lines_text (register_lines l.offset l.index)
