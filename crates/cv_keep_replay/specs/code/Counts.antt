-- What the entries of a record say of claims and of the generation.
use Rattle.std.specs.Prelude.{ℕ, ◌==◌, Bool, not, List, fold}
use Rattle.std.specs.List.{count_by}
use Rattle.cv_core_records.specs.declared.event.EventEntry.{EventEntry}
use Rattle.cv_core_records.specs.declared.reply.Reply.{Reply}
use Rattle.cv_core_records.specs.declared.reply.Reply.TheVariants as reply
use Rattle.cv_keep_replay.specs.Claims.{begins_claim, ends_claim}

-- not as many claims end as begin
abbrev pub leaves_claims : List EventEntry → Bool
leaves_claims entries =
    not (count_by (λ (entry : EventEntry). begins_claim entry.reply) entries == count_by (λ (entry : EventEntry). ends_claim entry.reply) entries)

-- the generation after an event with this reply
abbrev pub next_generation : ℕ → Reply → ℕ
next_generation before (reply.Updated generation rows) = generation
next_generation before _ = before

-- the generation after entries
abbrev pub generation_after : ℕ → List EventEntry → ℕ
generation_after before entries = fold (λ generation (entry : EventEntry). next_generation generation entry.reply) before entries
