-- Worked examples of the definitions.
use Rattle.std.specs.Prelude.{◌≡◌, refl}
use Rattle.cv_core_records.specs.declared.reply.Reply.TheVariants as reply
use Rattle.cv_core_machine.specs.State.{opening}
use Rattle.cv_core_machine.specs.declared.limits.Limits.{Limits}
use Rattle.cv_core.specs.Core.{counted, opened}
use Rattle.cv_core.specs.Planned.{plan_of}

limits : Limits
limits = record { images = 1; feeds = 1 }

-- a plan has the core before its event
kept : (plan_of (opened limits) (counted (opened limits) (opening limits, reply.Unwanted))).before ≡ opened limits
unfolding limits
kept = refl
