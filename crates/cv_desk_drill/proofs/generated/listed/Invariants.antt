use Rattle.std.proofs.Common.{◌≡◌, map}
use Rattle.cv_desk.specs.Stored.{listed}
use Rattle.cv_desk_drill.specs.code.GeneratedEntry.{made}
use Rattle.cv_desk_drill.proofs.generated.listed.Given as goal

abbrev pub invariant-loop-entry : goal.invariant-loop-entry
invariant-loop-entry l = l.out.items ≡ map listed (map made l.yielded)
