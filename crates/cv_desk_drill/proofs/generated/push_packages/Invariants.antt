use Rattle.std.proofs.Common.{◌≡◌, ◌++◌, map, drop}
use Rattle.cv_desk_drill.specs.Generated.{packages}
use Rattle.cv_desk_drill.specs.code.GeneratedEntry.{made}
use Rattle.cv_desk_drill.proofs.generated.push_packages.Given as goal

-- the entries so far, with those of the remaining packages, are all
abbrev pub invariant-loop-k : goal.invariant-loop-k
invariant-loop-k l = map made l.out.items ++ packages l.s (drop l.k-index l.ks) ≡ map made l.fn.out.items ++ packages l.s l.ks
