use Rattle.std.proofs.Common.{◌≡◌, map}
use Rattle.cv_desk_drill.specs.Hostile.{nested_directories}
use Rattle.cv_desk_drill.specs.code.GeneratedEntry.{made}
use Rattle.cv_desk_drill.proofs.hostile.directory_layer.Given as goal

abbrev pub invariant-loop-depth : goal.invariant-loop-depth
invariant-loop-depth l = map made l.out.items ≡ nested_directories l.depth
