use Rattle.std.proofs.Common.{◌≡◌, vec_len}
use Rattle.test_data.proofs.images.manifest_over.Given as goal

abbrev pub invariant-loop-index : goal.invariant-loop-index
invariant-loop-index l = vec_len l.layers ≡ l.index
