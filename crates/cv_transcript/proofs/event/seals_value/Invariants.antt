use Rattle.std.proofs.Common.{◌≡◌, map, take}
use Rattle.serde_json.specs.View.{view}
use Rattle.cv_transcript.specs.Members.{seal_data}
use Rattle.cv_transcript.proofs.event.seals_value.Given as goal

-- the values so far are those of the seals so far
abbrev pub invariant-loop-seal : goal.invariant-loop-seal
invariant-loop-seal l = map view l.items.items ≡ map seal_data (take l.seal-index l.seals)
