use Rattle.std.proofs.Common.{◌≡◌, ◌≤◌, drop, length, map}
use Rattle.cv_coalesce.specs.code.Merged.{merged_layers}
use Rattle.cv_coalesce.proofs.gather.gather.Given as goal

-- the files are those of the layers from here up
abbrev pub invariant-loop-remaining : goal.invariant-loop-remaining
invariant-loop-remaining l = record {
  within : l.remaining ≤ length l.layers;
  files : map (λ f. f.now) l.files.items ≡ merged_layers (map (λ r. r.now) (drop l.remaining l.layers));
}

abbrev pub decreases-loop-remaining : goal.decreases-loop-remaining
decreases-loop-remaining l = l.remaining
