use Rattle.std.proofs.Common.{◌≡◌, drop, map, ◌++◌}
use Rattle.cv_packages.specs.Packages.{counted_by}
use Rattle.cv_packages.proofs.assembly.counted.Given as goal

-- the files so far, with the remaining ones that count, are all that count
abbrev pub invariant-loop-file : goal.invariant-loop-file
invariant-loop-file l =
    map (λ file. file.now) l.out.items ++ counted_by l.etc (map (λ file. file.now) (drop l.file-index l.files))
    ≡ counted_by l.etc (map (λ file. file.now) l.files)
