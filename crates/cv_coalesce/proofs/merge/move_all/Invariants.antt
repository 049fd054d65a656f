use Rattle.std.proofs.Common.{◌≡◌, ◌++◌, length, map}
use Rattle.cv_coalesce.proofs.merge.move_all.Given as goal

-- the files so far, with the remaining ones, are the whole
abbrev pub invariant-loop-file : goal.invariant-loop-file
invariant-loop-file l =
    map (λ f. f.now) l.out.items ++ map (λ f. f.now) l.rest.items ≡ map (λ f. f.now) l.fn.out.items ++ map (λ f. f.now) l.fn.rest.items

abbrev pub decreases-loop-file : goal.decreases-loop-file
decreases-loop-file l = length l.rest.items
