use Rattle.std.proofs.Common.{◌≡◌, ◌++◌, drop, map}
use Rattle.cv_coalesce.specs.Gathered.{visible}
use Rattle.cv_coalesce.proofs.visible.visible.Given as goal

-- the files so far, with the remaining ones that are not hidden, are all that are not hidden
abbrev pub invariant-loop-file : goal.invariant-loop-file
invariant-loop-file l =
    map (λ f. f.now) l.out.items ++ visible (map (λ h. h.now) l.higher) (drop l.file-index l.files)
    ≡ visible (map (λ h. h.now) l.higher) l.files
