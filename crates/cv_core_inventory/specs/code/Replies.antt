-- The replies of the registry after which facts or outcomes change.
use Rattle.std.specs.Prelude.{Bool, true, false}
use Rattle.cv_core_records.specs.declared.reply.Reply.{Reply}
use Rattle.cv_core_records.specs.declared.reply.Reply.TheVariants as reply

-- an image was registered
abbrev pub is_registered : Reply → Bool
is_registered reply.Registered = true
is_registered _ = false

-- a layer was indexed
abbrev pub is_entered : Reply → Bool
is_entered reply.Entered = true
is_entered _ = false
