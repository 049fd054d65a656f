-- The generation counts the replies that are Updated.
use Rattle.std.specs.Prelude.{◌≡◌, ℕ, ◌+◌, List, [], ◌∷◌, length, filter}
use Rattle.std.proofs.Common.{ap, arith, ◌∙◌}
use Rattle.cv_core_records.specs.declared.reply.Reply.{Reply}
use Rattle.cv_core_records.specs.declared.reply.Reply.TheVariants as reply
use Rattle.cv_core_machine.specs.History.{replies, state_after}
use Rattle.cv_core_machine.specs.Laws.{IsGenerationAfter, is_updated}
use Rattle.cv_core_machine.specs.Scans.{Trees}
use Rattle.cv_core_machine.specs.State.{State, opening}
use Rattle.cv_core_machine.specs.Step.{step}
use Rattle.cv_core_machine.specs.declared.event.MachineEvent.{MachineEvent}
use Rattle.cv_core_machine.specs.declared.limits.Limits.{Limits}
use Rattle.cv_core_machine.proofs.Stepped.{step_orderly}

-- one more reply
one_more : (answer : Reply) (before now : ℕ) (more : List Reply) → IsGenerationAfter before answer now
    → now + length (filter is_updated more) ≡ before + length (filter is_updated (answer ∷ more))
one_more (reply.Updated generation rows) before now more is = let next : now ≡ before + 1 = is.0 in omega (arith, next)
one_more reply.Registered before now more is = ap (λ n. n + length (filter is_updated more)) is
one_more reply.Already before now more is = ap (λ n. n + length (filter is_updated more)) is
one_more (reply.Conflict kept seals) before now more is = ap (λ n. n + length (filter is_updated more)) is
one_more reply.TooManyImages before now more is = ap (λ n. n + length (filter is_updated more)) is
one_more reply.Dropped before now more is = ap (λ n. n + length (filter is_updated more)) is
one_more reply.NotRegistered before now more is = ap (λ n. n + length (filter is_updated more)) is
one_more reply.Claimed before now more is = ap (λ n. n + length (filter is_updated more)) is
one_more reply.Taken before now more is = ap (λ n. n + length (filter is_updated more)) is
one_more reply.Unwanted before now more is = ap (λ n. n + length (filter is_updated more)) is
one_more reply.Entered before now more is = ap (λ n. n + length (filter is_updated more)) is
one_more reply.Discarded before now more is = ap (λ n. n + length (filter is_updated more)) is
one_more reply.Requeued before now more is = ap (λ n. n + length (filter is_updated more)) is
one_more reply.NotClaimed before now more is = ap (λ n. n + length (filter is_updated more)) is
one_more reply.TooManyFeeds before now more is = ap (λ n. n + length (filter is_updated more)) is
one_more reply.NoFeed before now more is = ap (λ n. n + length (filter is_updated more)) is
one_more (reply.StaleBase kept) before now more is = ap (λ n. n + length (filter is_updated more)) is
one_more (reply.TooManyRecords would) before now more is = ap (λ n. n + length (filter is_updated more)) is
one_more reply.Acked before now more is = ap (λ n. n + length (filter is_updated more)) is
one_more reply.NoNotification before now more is = ap (λ n. n + length (filter is_updated more)) is

-- the generation after events
generation_more : (trees : Trees) (s : State) (acts : List MachineEvent)
    → (state_after trees s acts).generation ≡ s.generation + length (filter is_updated (replies trees s acts))
generation_more trees s [] = omega arith
generation_more trees s (a ∷ acts) =
    generation_more trees (step trees s a).0 acts
    ∙ one_more (step trees s a).1 s.generation (step trees s a).0.generation (replies trees (step trees s a).0 acts) (step_orderly trees s a).generation

pub generation_counted : (trees : Trees) (limits : Limits) (acts : List MachineEvent)
    → (state_after trees (opening limits) acts).generation ≡ length (filter is_updated (replies trees (opening limits) acts))
generation_counted trees limits acts =
    generation_more trees (opening limits) acts ∙ from_none (length (filter is_updated (replies trees (opening limits) acts))) where
      from_none : (n : ℕ) → 0 + n ≡ n
      from_none n = omega arith
