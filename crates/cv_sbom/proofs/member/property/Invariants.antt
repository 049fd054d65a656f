-- The property is among the remaining ones, or none is.
use Rattle.std.specs.Prelude.{◌≡◌, length, map}
use Rattle.serde_json.specs.View.{items_of}
use Rattle.cv_sbom.specs.Member.{property}
use Rattle.cv_sbom.proofs.member.property.Given as goal

abbrev pub invariant-loop-remaining : goal.invariant-loop-remaining
invariant-loop-remaining g l =
    property l.name (items_of (map g.V.Node.data_of l.remaining)) ≡ property l.name (items_of (map g.V.Node.data_of l.properties))

abbrev pub decreases-loop-remaining : goal.decreases-loop-remaining
decreases-loop-remaining g l = length l.remaining
