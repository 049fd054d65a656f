-- Worked examples of the definitions.
use Rattle.std.specs.Prelude.{◌≡◌, true, false, [], refl}
use Rattle.cv_core_records.specs.declared.reply.Reply.TheVariants as reply
use Rattle.cv_core_machine.specs.State.{opening}
use Rattle.cv_core_machine.specs.declared.event.MachineEvent.TheVariants as act
use Rattle.cv_core_machine.specs.declared.limits.Limits.{Limits}
use Rattle.cv_core.specs.Core.{counted, is_update, opened}

limits : Limits
limits = record { images = 1; feeds = 1 }

-- an event that changes nothing is counted
refused : (counted (opened limits) (opening limits, reply.NotRegistered)).0.count ≡ 1
unfolding limits
refused = refl

-- only an update and a patch of a feed have scans in what they do
updates : (is_update (act.Update [] []) ≡ true) × (is_update (act.Patch [] 0 [] []) ≡ true) × (is_update (act.Ack 1) ≡ false)
updates = (refl, refl, refl)
