-- What a push made of all its rounds (defined by this project), by lists: the lines of the attempts after each round, and the output.
-- What is offered again, and what waits, is said of these lines, too.
use Rattle.std.specs.Prelude.{◌≡◌, ◌⊎◌, ⊤, ℕ, ◌<◌, ◌≤◌, true, if◌then◌else◌, List, [], ◌∷◌, ◌++◌, filter, Option, Some, None, All}
use Rattle.std.specs.Io.KnownBytes.{Appends}
use Rattle.std.specs.List.{AllByRecursion, Contains, flat_map}
use Rattle.cv_transcript.specs.Entry.{entry_text}
use Rattle.cv_core_machine.specs.Scans.{StatesEveryLayer, trees_of}
use Rattle.cv_hook.specs.Attempts.{is_taken, offered}
use Rattle.cv_hook.specs.declared.offer.HookLine.{HookLine}
use Rattle.cv_hub_seats.specs.Events.{DeskTrees}
use Rattle.cv_serve_lanes.specs.Counts.{RoseBy}
use Rattle.cv_serve_legal.specs.Replay.{Moment}
use Rattle.cv_serve_legal.specs.Round.{IsLegalRound}
use Rattle.cv_serve_legal.specs.Whole.{WholeRound}
use Rattle.cv_serve_round.specs.Written.{WithBytes}
use Rattle.cv_serve_pushed.specs.Attempts.{AreLines, hook_faults}
use Rattle.cv_serve_pushed.specs.HookText.{HasNoTag, hook_text}
use Rattle.cv_serve_pushed.specs.Pushes.{MadeAttempts, PushState}

-- After each of these rounds the attempts were made, over the state there, and these are their lines. The outbox goes on from round to round
abbrev pub AreAttempts : DeskTrees → ℕ → Moment → PushState → List WholeRound → List (List HookLine) → Moment → PushState → Type 0
AreAttempts tree workers before held [] [] after held_now = (after ≡ before) × (held_now ≡ held)
AreAttempts tree workers before held (round ∷ rounds) (lines ∷ hook_lines) after held_now =
    (between : Moment) × (middle : PushState) × (StatesEveryLayer tree → IsLegalRound (trees_of tree) workers before round.lines round.entries between)
    × MadeAttempts (StatesEveryLayer tree) between.state.notifications held middle lines × AreAttempts tree workers between middle rounds hook_lines after held_now
AreAttempts tree workers before held _ _ after held_now = ⊥

-- the lines of rounds, and after each round those of its attempts
abbrev pub pushed_text : List WholeRound → List (List HookLine) → List ℕ
pushed_text (round ∷ rounds) (lines ∷ hook_lines) = (flat_map entry_text round.entries ++ flat_map hook_text lines) ++ pushed_text rounds hook_lines
pushed_text _ _ = []

-- the lines of the attempts of all rounds, in their order
abbrev pub all_lines : List (List HookLine) → List HookLine
all_lines [] = []
all_lines (lines ∷ hook_lines) = lines ++ all_lines hook_lines

-- The attempts of all rounds. Each offer of the hook is one of a line, and each line is of an offer; the hook's count rose for each line that
-- says that it failed. No line of an attempt is taken for a line of a round
pub record ArePushed (tree : DeskTrees) (workers : ℕ) (start : Moment) (before : WithBytes PushState) (rounds : List WholeRound) (after : Moment) (now : WithBytes PushState) : Type 0 where
  pub hook_lines : List (List HookLine)
  pub attempts : AreAttempts tree workers start before.0 rounds hook_lines after now.0
  pub output : Appends before.1 now.1 (pushed_text rounds hook_lines)
  pub untagged : AllByRecursion HasNoTag (all_lines hook_lines)
  pub offers : AreLines (all_lines hook_lines) before.0.offers now.0.offers
  pub faults : RoseBy (hook_faults (all_lines hook_lines)) before.0.faults now.0.faults

-- ---- what is offered again

-- rounds in two parts: the first ones lead to this moment, and the later ones go on from there
pub record AreAttemptsInParts (tree : DeskTrees) (workers : ℕ) (before : Moment) (held : PushState) (first later : List WholeRound) (hook_lines : List (List HookLine)) (after : Moment) (held_now : PushState) : Type 0 where
  pub between : Moment
  pub middle : PushState
  pub first_lines : List (List HookLine)
  pub later_lines : List (List HookLine)
  pub joined : hook_lines ≡ first_lines ++ later_lines
  pub front : AreAttempts tree workers before held first first_lines between middle
  pub back : AreAttempts tree workers between middle later later_lines after held_now

-- the first number that is offered
abbrev pub first_offered : List HookLine → Option ℕ
first_offered [] = None
first_offered (line ∷ lines) = Some line.number

-- the number that is offered last, if it was not taken
abbrev pub last_untaken : List HookLine → Option ℕ
last_untaken [] = None
last_untaken (line ∷ []) = if is_taken line.outcome then None else Some line.number
last_untaken (line ∷ next ∷ lines) = last_untaken (next ∷ lines)

-- after a number that was taken only greater ones are offered
abbrev pub AreTakenOnce : List HookLine → Type 0
AreTakenOnce [] = ⊤
AreTakenOnce (line ∷ later) = (is_taken line.outcome ≡ true → All (λ number. line.number < number) (offered later)) × AreTakenOnce later

-- ---- what waits

-- the numbers that were taken
abbrev pub taken : List HookLine → List ℕ
taken lines = offered (filter (λ (line : HookLine). is_taken line.outcome) lines)

-- None of the numbers that stand is skipped: each was taken, or waits above the last one taken, where the next round begins. What was taken
-- does not wait
pub record AreTakenOrWait (standing : List ℕ) (last : ℕ) (lines : List HookLine) : Type 0 where
  pub each : All (λ number. Contains (taken lines) number ⊎ (last < number)) standing
  pub not_both : All (λ number. number ≤ last) (taken lines)
