-- What the parts of `end_round` leave, over what a push has.
use Rattle.std.specs.Prelude.{◌≡◌, ◌⊎◌, ℕ, List, Option}
use Rattle.std.specs.Io.KnownBytes.{Appends}
use Rattle.std.specs.List.{AllByRecursion, flat_map}
use Rattle.cv_io.specs.Writes.{AppendsPrefix}
use Rattle.cv_io.specs.declared.write.WriteError.{WriteError}
use Rattle.cv_io.specs.declared.write.WriteError.TheVariants as error
use Rattle.cv_core_records.specs.Pages.{Notifications}
use Rattle.cv_hook.specs.declared.offer.HookLine.{HookLine}
use Rattle.cv_serve_pushed.specs.HookText.{HasNoTag, hook_text}
use Rattle.cv_serve_pushed.specs.Pushes.{MadeAttempts, PushState, StoppedAttempts}

-- all attempts of a round were made, and their lines written
pub record WroteAttempts (known : Type 0) (notifications : Notifications) (before after : PushState) (written written_now : Option (List ℕ)) : Type 0 where
  pub lines : List HookLine
  pub made : MadeAttempts known notifications before after lines
  pub output : Appends written written_now (flat_map hook_text lines)
  pub untagged : AllByRecursion HasNoTag lines

-- All attempts of a round were made, and of their lines the first bytes were written. Nothing of them was written, or none of them is taken
-- for a line of a round
pub record WroteAttemptsInPart (known : Type 0) (notifications : Notifications) (before after : PushState) (written written_now : Option (List ℕ)) : Type 0 where
  pub lines : List HookLine
  pub made : MadeAttempts known notifications before after lines
  pub part : AppendsPrefix written written_now (flat_map hook_text lines)
  pub untagged : (written_now ≡ written) ⊎ AllByRecursion HasNoTag lines

-- the attempts of a round, or the writing of their lines, stopped by this error
abbrev pub StopsAfterLines : Type 0 → Notifications → PushState → PushState → Option (List ℕ) → Option (List ℕ) → WriteError → Type 0
StopsAfterLines known notifications before after written written_now error.WriteFault = WroteAttemptsInPart known notifications before after written written_now
StopsAfterLines known notifications before after written written_now error.NoMemory =
    WroteAttemptsInPart known notifications before after written written_now
    ⊎ (StoppedAttempts known notifications before after × (written_now ≡ written))
