-- What has been read and then the remaining items are the whole.
use Rattle.std.specs.Prelude.{◌≡◌, length, map}
use Rattle.cv_base.specs.Results.{onto}
use Rattle.cv_osv.proofs.range.read_turns.Given as goal
use Rattle.cv_osv.specs.Json.{each_joined}
use Rattle.cv_osv.specs.Record.{turns_of}
use Rattle.serde_json.specs.View.{items_of}

abbrev pub invariant-loop-remaining : goal.invariant-loop-remaining
invariant-loop-remaining g l =
    onto l.turns.items (each_joined turns_of (items_of (map g.V.Node.data_of l.remaining))) ≡ each_joined turns_of (items_of (map g.V.Node.data_of l.fn.events))

abbrev pub decreases-loop-remaining : goal.decreases-loop-remaining
decreases-loop-remaining g l = length l.remaining
