use Rattle.std.proofs.Common.{◌≡◌, drop, map, true}
use Rattle.cv_base.specs.Texts.{has_text}
use Rattle.cv_scan_image.proofs.places.place_of.Given as goal

-- the layer is among the remaining ones
abbrev pub invariant-loop-index : goal.invariant-loop-index
invariant-loop-index g l = has_text (map (λ f. f.digest) (drop l.index l.facts)) l.layer ≡ true
