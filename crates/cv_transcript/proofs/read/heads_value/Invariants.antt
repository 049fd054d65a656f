use Rattle.std.proofs.Common.{◌≡◌, map, take}
use Rattle.serde_json.specs.View.{view}
use Rattle.cv_transcript.specs.Read.{head_data}
use Rattle.cv_transcript.proofs.read.heads_value.Given as goal

-- the values so far are those of the notifications so far
abbrev pub invariant-loop-head : goal.invariant-loop-head
invariant-loop-head l = map view l.items.items ≡ map head_data (take l.head-index l.heads)
