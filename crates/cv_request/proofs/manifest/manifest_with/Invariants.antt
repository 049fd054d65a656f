use Rattle.std.proofs.Common.{◌≡◌, map}
use Rattle.cv_request.proofs.manifest.manifest_with.Given as goal

-- the digests and the seals so far are those of the layers so far
abbrev pub invariant-loop-layer : goal.invariant-loop-layer
invariant-loop-layer l = record {
  layers : l.layers.items ≡ map (λ layer. layer.0) l.yielded;
  seals : l.seals.items ≡ map (λ layer. layer.1) l.yielded;
}
