use Rattle.std.proofs.Common.{◌≡◌, map, take}
use Rattle.serde_json.specs.View.{view}
use Rattle.cv_transcript.specs.Members.{digest_data}
use Rattle.cv_transcript.proofs.event.digests_value.Given as goal

-- the values so far are those of the digests so far
abbrev pub invariant-loop-digest : goal.invariant-loop-digest
invariant-loop-digest l = map view l.items.items ≡ map digest_data (take l.digest-index l.digests)
