use Rattle.std.proofs.Common.{◌≡◌, drop, map}
use Rattle.cv_packages.specs.Packages.{system}
use Rattle.cv_packages.proofs.assembly.system.Given as goal

-- the remaining files name the system that all name
abbrev pub invariant-loop-file : goal.invariant-loop-file
invariant-loop-file l =
    system (map (λ file. file.now) (drop l.file-index l.files)) ≡ system (map (λ file. file.now) l.files)
