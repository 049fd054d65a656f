use Rattle.std.proofs.Common.{◌≡◌, drop, map}
use Rattle.std.specs.Option.{option_map}
use Rattle.cv_base.specs.Results.{onto}
use Rattle.cv_packages.specs.Packages.{all_packages}
use Rattle.cv_packages.proofs.assembly.all_packages.Given as goal

-- the packages so far, with those of the remaining files, are all
abbrev pub invariant-loop-file : goal.invariant-loop-file
invariant-loop-file l =
    let os = option_map (λ name. name.now) l.os in
    onto l.out.items (all_packages os (map (λ file. file.now) (drop l.file-index l.files))) ≡ all_packages os (map (λ file. file.now) l.files)
