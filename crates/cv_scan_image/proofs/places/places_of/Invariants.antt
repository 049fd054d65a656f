use Rattle.std.proofs.Common.{◌≡◌, ◌<◌, [], All, length, map, take}
use Rattle.cv_coalesce.specs.Coalesced.{at_places}
use Rattle.cv_scan_image.proofs.places.places_of.Given as goal

-- the places so far are those of the layers so far
abbrev pub invariant-loop-layer : goal.invariant-loop-layer
invariant-loop-layer g l = record {
  layers : at_places [] (map (λ f. f.digest) l.facts) l.places.items ≡ take l.layer-index l.layers;
  within : All (λ k. k < length l.facts) l.places.items;
  count : length l.places.items ≡ l.layer-index;
}
