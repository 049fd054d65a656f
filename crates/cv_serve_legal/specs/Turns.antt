-- The work of one worker in a round (defined by this project): it claims a layer, and if the reply is Claimed, its next event
-- says what became of this layer.
use Rattle.std.specs.Prelude.{◌≡◌, ⊤, ℕ, ◌<◌, List, [], ◌∷◌, Option, Some, None}
use Rattle.cv_core_records.specs.declared.event.Act.{Act}
use Rattle.cv_core_records.specs.declared.event.Act.TheVariants as name
use Rattle.cv_core_records.specs.declared.event.By.{By}
use Rattle.cv_core_records.specs.declared.event.By.TheVariants as by
use Rattle.cv_core_records.specs.declared.event.EventEntry.{EventEntry}
use Rattle.cv_core_records.specs.declared.reply.Reply.{Reply}
use Rattle.cv_core_records.specs.declared.reply.Reply.TheVariants as reply

-- the next event of a worker: a claim if it works at no layer, and else what became of that layer
abbrev pub FitsWork : Option (List ℕ) → Act → Type 0
FitsWork None (name.Claim layer) = ⊤
FitsWork None act = ⊥
FitsWork (Some layer) (name.Indexed other) = other ≡ layer
FitsWork (Some layer) (name.Fault other) = other ≡ layer
FitsWork (Some layer) (name.Memory other) = other ≡ layer
FitsWork (Some layer) act = ⊥

-- the layer at which a worker works after an event: the one that it claimed, if the reply is Claimed
abbrev pub work_after : Act → Reply → Option (List ℕ)
work_after (name.Claim layer) reply.Claimed = Some layer
work_after act reply = None

-- events of a worker, from the layer at which it works before them to the one at which it works after them
abbrev pub Works : Option (List ℕ) → List EventEntry → Option (List ℕ) → Type 0
Works before [] after = after ≡ before
Works before (event ∷ events) after = FitsWork before event.act × Works (work_after event.act event.reply) events after

-- a claim comes from a worker below this number
abbrev pub ClaimsBelow : ℕ → By → Act → Type 0
ClaimsBelow workers (by.Worker worker) (name.Claim layer) = worker < workers
ClaimsBelow workers (by.Lane lane line) (name.Claim layer) = ⊥
ClaimsBelow workers by act = ⊤
