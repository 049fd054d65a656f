-- What follows the lines of a round of `push` (defined by this project): the attempts of the round are made over the state after its last
-- event, and then their lines are written. A round that stops may have made some of them. `WithBytes` adds the bytes written, if they are
-- known.
use Rattle.std.specs.Prelude.{◌≡◌, ◌⊎◌, ℕ, List, ◌++◌, Option}
use Rattle.std.specs.Io.KnownBytes.{Appends}
use Rattle.std.specs.List.{AllByRecursion, flat_map}
use Rattle.cv_io.specs.Writes.{AppendsPrefix}
use Rattle.cv_io.specs.declared.write.WriteError.{WriteError}
use Rattle.cv_io.specs.declared.write.WriteError.TheVariants as error
use Rattle.cv_transcript.specs.Entry.{entry_text}
use Rattle.cv_core_machine.specs.Scans.{StatesEveryLayer}
use Rattle.cv_core_records.specs.Pages.{Notifications}
use Rattle.cv_hook.specs.Attempts.{OutboxState, begun}
use Rattle.cv_hook.specs.declared.offer.HookLine.{HookLine}
use Rattle.cv_hook.specs.declared.offer.Offer.{Offer}
use Rattle.cv_hub_seats.specs.Events.{DeskTrees}
use Rattle.cv_serve_lanes.specs.Counts.{RoseBy}
use Rattle.cv_serve_legal.specs.Replay.{Moment}
use Rattle.cv_serve_legal.specs.Whole.{WholeRound}
use Rattle.cv_serve_round.specs.Written.{WithBytes}
use Rattle.cv_serve_pushed.specs.Attempts.{AreLines, IsAttempted, IsAttemptedInPart, IsLeft, after_lines, hook_faults}
use Rattle.cv_serve_pushed.specs.HookText.{HasNoTag, hook_text}

-- what a push has between two rounds: its outbox, the hook's offers, if they are known, and the count of the hook's faults
pub record PushState : Type 0 where
  pub outbox : OutboxState
  pub offers : Option (List Offer)
  pub faults : ℕ

-- the same, by the outbox and what the hook counts
abbrev pub push_state : OutboxState → Option (List Offer) → ℕ → PushState
push_state outbox offers faults = record { outbox = outbox; offers = offers; faults = faults }

-- the same, by the outbox and a hook whose offers and count are these, with the bytes written
abbrev pub push_of : {H : Type 0} → (H → Option (List Offer)) → (H → ℕ) → WithBytes (OutboxState × H) → WithBytes PushState
push_of offers faults held = (push_state held.0.0 (offers held.0.1) (faults held.0.1), held.1)

-- All attempts of a round were made, over the notifications that stand, and these are their lines. Which notifications stand is known where
-- the layers of the desks' type are known; that each line is of one offer, and what the outbox and the hook count, is known of every desk
pub record MadeAttempts (known : Type 0) (notifications : Notifications) (before after : PushState) (lines : List HookLine) : Type 0 where
  pub attempts : known → IsAttempted notifications before.outbox before.offers after.offers lines
  pub offers : AreLines lines before.offers after.offers
  pub outbox : after.outbox ≡ after_lines (begun before.outbox) lines
  pub faults : RoseBy (hook_faults lines) before.faults after.faults

-- Memory ran out in the attempts of a round, after some of them. That those were the first ones of the round is known where the layers of the
-- desks' type are known
pub record StoppedAttempts (known : Type 0) (notifications : Notifications) (before after : PushState) : Type 0 where
  pub attempts : known → IsAttemptedInPart notifications before.outbox after.outbox before.offers after.offers before.faults after.faults
  pub left : IsLeft before.outbox after.outbox before.offers after.offers before.faults after.faults

-- ---- a round that ends

-- the lines of a round were written, then its attempts were made over the state at this moment, and then their lines were written, none of
-- which is taken for a line of a round
pub record Pushes (tree : DeskTrees) (before : WithBytes PushState) (round : WholeRound) (moment : Moment) (after : WithBytes PushState) : Type 0 where
  pub lines : List HookLine
  pub made : MadeAttempts (StatesEveryLayer tree) moment.state.notifications before.0 after.0 lines
  pub output : Appends before.1 after.1 (flat_map entry_text round.entries ++ flat_map hook_text lines)
  pub untagged : AllByRecursion HasNoTag lines

-- ---- a round that stops

-- the first bytes of the lines of a round were written, and nothing was offered
abbrev pub StopsInLines : WithBytes PushState → WholeRound → WithBytes PushState → Type 0
StopsInLines before round after = (after.0 ≡ before.0) × AppendsPrefix before.1 after.1 (flat_map entry_text round.entries)

-- The lines of a round were written, all its attempts were made, and of their lines the first bytes were written. Nothing of them was written,
-- or none of them is taken for a line of a round
pub record StopsInHookLines (tree : DeskTrees) (before : WithBytes PushState) (round : WholeRound) (moment : Moment) (after : WithBytes PushState) : Type 0 where
  pub between : Option (List ℕ)
  pub whole : Appends before.1 between (flat_map entry_text round.entries)
  pub lines : List HookLine
  pub made : MadeAttempts (StatesEveryLayer tree) moment.state.notifications before.0 after.0 lines
  pub part : AppendsPrefix between after.1 (flat_map hook_text lines)
  pub untagged : (after.1 ≡ between) ⊎ AllByRecursion HasNoTag lines

-- the lines of a round were written, some of its attempts were made, and none of their lines was written
pub record StopsInAttempts (tree : DeskTrees) (before : WithBytes PushState) (round : WholeRound) (moment : Moment) (after : WithBytes PushState) : Type 0 where
  pub whole : Appends before.1 after.1 (flat_map entry_text round.entries)
  pub stopped : StoppedAttempts (StatesEveryLayer tree) moment.state.notifications before.0 after.0

-- a round stopped by this error. Only memory stops its attempts
abbrev pub StopsPushing : DeskTrees → WriteError → WithBytes PushState → WholeRound → Moment → WithBytes PushState → Type 0
StopsPushing tree error.WriteFault before round moment after = StopsInLines before round after ⊎ StopsInHookLines tree before round moment after
StopsPushing tree error.NoMemory before round moment after =
    StopsInLines before round after ⊎ StopsInHookLines tree before round moment after ⊎ StopsInAttempts tree before round moment after
