use Rattle.cv_scan.proofs.Laid.{node_root, root_ascends}
use Rattle.cv_scan.proofs.laws.root_laws.Goals as goal

pub returns : goal.returns
returns c = record { nodes = node_root; ascending = root_ascends }
