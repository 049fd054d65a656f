-- What was read, and then what the remaining components are, is the whole.
use Rattle.std.specs.Prelude.{◌≡◌, ◌≤◌, ◌+◌, ◌++◌, length, map}
use Rattle.serde_json.specs.View.{items_of}
use Rattle.cv_sbom.specs.ListRead.{packages_in, skipped_in}
use Rattle.cv_sbom.proofs.components.read_components.Given as goal

abbrev pub invariant-loop-remaining : goal.invariant-loop-remaining
invariant-loop-remaining g l =
    let all = items_of (map g.V.Node.data_of l.components) in
    let rest = items_of (map g.V.Node.data_of l.remaining) in
    record {
      packages : l.packages.items ++ packages_in rest ≡ packages_in all;
      skipped : l.skipped + skipped_in rest ≡ skipped_in all;
      room : l.skipped + length l.remaining ≤ l.count;
    }

abbrev pub decreases-loop-remaining : goal.decreases-loop-remaining
decreases-loop-remaining g l = length l.remaining
