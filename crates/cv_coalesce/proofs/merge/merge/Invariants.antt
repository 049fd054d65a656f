use Rattle.std.proofs.Common.{◌≡◌, ◌+◌, ◌++◌, length, map}
use Rattle.cv_coalesce.specs.code.Merged.{merged}
use Rattle.cv_coalesce.proofs.merge.merge.Given as goal

-- the files so far, with the remaining ones merged, are the whole merged
abbrev pub invariant-loop-order : goal.invariant-loop-order
invariant-loop-order l =
    map (λ f. f.now) l.out.items ++ merged (map (λ f. f.now) l.low.items) (map (λ f. f.now) l.high.items)
    ≡ merged (map (λ f. f.now) l.fn.lower.items) (map (λ f. f.now) l.fn.upper.items)

abbrev pub decreases-loop-order : goal.decreases-loop-order
decreases-loop-order l = length l.low.items + length l.high.items
