-- What has been read and then the remaining items are the whole.
use Rattle.std.specs.Prelude.{◌≡◌, length, map}
use Rattle.cv_base.specs.Results.{onto}
use Rattle.cv_osv.proofs.part.read_each.Given as goal
use Rattle.cv_osv.specs.Json.{each}
use Rattle.serde_json.specs.View.{items_of}

abbrev pub invariant-loop-remaining : goal.invariant-loop-remaining
invariant-loop-remaining g l =
    onto l.parts.items (each g.P.Part.part_of (items_of (map g.V.Node.data_of l.remaining))) ≡ each g.P.Part.part_of (items_of (map g.V.Node.data_of l.fn.items))

abbrev pub decreases-loop-remaining : goal.decreases-loop-remaining
decreases-loop-remaining g l = length l.remaining
