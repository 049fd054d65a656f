use Rattle.std.proofs.Common.{rules}
use Rattle.cv_path.proofs.PathReads.{path_read}
use Rattle.cv_path.proofs.path.RelPath.read.Goals as goal

pub invariant_of-result : goal.invariant_of-result
invariant_of-result c = rw c.in_ok-of.ensures (path_read c.args.text.now (search rules))
