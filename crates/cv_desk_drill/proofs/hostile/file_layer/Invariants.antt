use Rattle.std.proofs.Common.{◌≡◌, map}
use Rattle.cv_desk_drill.specs.Hostile.{empty_files}
use Rattle.cv_desk_drill.specs.code.GeneratedEntry.{made}
use Rattle.cv_desk_drill.proofs.hostile.file_layer.Given as goal

abbrev pub invariant-loop-number : goal.invariant-loop-number
invariant-loop-number l = map made l.out.items ≡ empty_files l.number
