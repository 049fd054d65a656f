-- Layers that are Claimed (defined by this project).
use Rattle.std.specs.Prelude.{ℕ, Bool, true, false, List}
use Rattle.std.specs.List.{list_any}
use Rattle.cv_core_records.specs.declared.reply.Reply.{Reply}
use Rattle.cv_core_records.specs.declared.reply.Reply.TheVariants as reply
use Rattle.cv_core_machine.specs.Layers.{is_claimed_as}
use Rattle.cv_core_machine.specs.State.{Layers}
use Rattle.cv_core_machine.specs.declared.status.Status.{Status}

-- a layer of a table is Claimed
abbrev pub has_claim : Layers → Bool
has_claim table = list_any (λ (entry : List ℕ × Status). is_claimed_as entry.1) table

-- with this reply a layer became Claimed
abbrev pub begins_claim : Reply → Bool
begins_claim reply.Claimed = true
begins_claim _ = false

-- with these replies a layer that was Claimed is so no more
abbrev pub ends_claim : Reply → Bool
ends_claim reply.Entered = true
ends_claim reply.Discarded = true
ends_claim reply.Requeued = true
ends_claim _ = false
