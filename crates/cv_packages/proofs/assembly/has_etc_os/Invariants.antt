use Rattle.std.proofs.Common.{◌≡◌, drop, map}
use Rattle.std.specs.List.{list_any}
use Rattle.cv_packages.specs.Packages.{is_etc_os}
use Rattle.cv_packages.proofs.assembly.has_etc_os.Given as goal

-- the remaining files have one there if all do
abbrev pub invariant-loop-file : goal.invariant-loop-file
invariant-loop-file l =
    list_any is_etc_os (map (λ file. file.now) (drop l.file-index l.files)) ≡ list_any is_etc_os (map (λ file. file.now) l.files)
