-- A planned event (defined by this project).
use Rattle.cv_core_records.specs.declared.reply.Reply.{Reply}
use Rattle.cv_core.specs.Core.{CoreView}

-- the core before an event, the core after it, and the reply
pub record PlannedView : Type 0 where
  pub before : CoreView
  pub after : CoreView
  pub reply : Reply

-- the plan of an event that leads from a core to another one and to a reply
abbrev pub plan_of : CoreView → CoreView × Reply → PlannedView
plan_of before end = record { before = before; after = end.0; reply = end.1 }
