-- The texts so far and the remaining items are the whole.
use Rattle.std.specs.Prelude.{◌≡◌, length, map}
use Rattle.serde_json.specs.View.{items_of}
use Rattle.cv_base.specs.Results.{onto}
use Rattle.cv_osv.specs.Json.{each}
use Rattle.cv_request.specs.Member.{text_of}
use Rattle.cv_request.proofs.member.read_texts.Given as goal

abbrev pub invariant-loop-remaining : goal.invariant-loop-remaining
invariant-loop-remaining g l =
    onto l.texts.items (each (text_of l.fn.bad) (items_of (map g.V.Node.data_of l.remaining))) ≡ each (text_of l.fn.bad) (items_of (map g.V.Node.data_of l.fn.items))

abbrev pub decreases-loop-remaining : goal.decreases-loop-remaining
decreases-loop-remaining g l = length l.remaining
