use Rattle.std.proofs.Common.{◌≡◌, take, map}
use Rattle.cv_packages.proofs.root.borrowed.Given as goal

abbrev pub invariant-loop-file : goal.invariant-loop-file
invariant-loop-file l = map (λ file. file.now) l.out.items ≡ take l.file-index l.files
