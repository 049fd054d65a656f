-- A round that has begun, a line that fits, and a round that is carried out.
use Rattle.std.specs.Prelude.{◌≡◌, ℕ, ◌≤◌, ◌+◌, ◌⊎◌, List, [], map}
use Rattle.std.specs.List.{AllByRecursion, AllZip}
use Rattle.cv_io.specs.declared.write.WriteError.{WriteError}
use Rattle.cv_io.specs.declared.write.WriteError.TheVariants as error
use Rattle.cv_transcript.specs.Entry.{entry_text}
use Rattle.cv_transcript.specs.declared.entry.Entry.{Entry}
use Rattle.cv_core_machine.specs.Layers.{queued}
use Rattle.cv_core_machine.specs.Scans.{Trees}
use Rattle.cv_serve_legal.specs.Replay.{Moment}
use Rattle.cv_serve_legal.specs.Round.{IsLegalRound}
use Rattle.cv_serve_legal.specs.ParsedLine.{IsTaken}
use Rattle.cv_serve_legal.specs.Rounds.{Round}
use Rattle.cv_serve_legal.specs.Served.{LinesAscend}
use Rattle.cv_serve_legal.specs.Whole.{AreLastRounds, WholeRound, entries_in, whole_round}
use Rattle.cv_serve_legal.specs.declared.limits.TheConstants.{MAX_ROUND_BYTES}
use Rattle.cv_serve_legal.specs.declared.parsed_line.ParsedLine.{ParsedLine}
use Rattle.cv_serve_round.specs.Round.{DesksAtLeast, DesksCounted, IsSoundTaken}
use Rattle.cv_serve_round.specs.Done.{AreDone}
use Rattle.cv_serve_round.specs.Printed.{HasTag}

-- a round that has begun: without lines it has no bytes
abbrev pub IsSoundRound : List ParsedLine → ℕ → Type 0
IsSoundRound taken bytes = AllByRecursion IsSoundTaken taken × (taken ≡ [] → bytes ≡ 0)

-- this number of bytes more fits into a round, or it has none yet
abbrev pub IsRoomFor : ℕ → ℕ → Type 0
IsRoomFor bytes more = (bytes ≡ 0) ⊎ (bytes + more ≤ MAX_ROUND_BYTES)

-- the entries of a round that was carried out of what became of its lines, and what the desks of its workers counted
pub record RoundMade {D : Type 0} (known : Type 0) (trees : Trees) (workers : ℕ) (listings faults : D → ℕ) (taken : List ParsedLine) (before after : Moment) (desks desks_now : List D) : Type 0 where
  pub entries : List Entry
  pub legal : known → (lines : Round) (last : ℕ) → AllZip IsTaken lines taken → LinesAscend lines last → IsLegalRound trees workers before lines entries after
  pub tags : AllByRecursion HasTag entries
  pub counts : DesksCounted listings faults 0 desks desks_now entries

-- the same, with the entries and their texts
pub record LegalTexts {D : Type 0} (known : Type 0) (trees : Trees) (workers : ℕ) (listings faults : D → ℕ) (taken : List ParsedLine) (before : Moment) (desks : List D) (entries : List Entry) (texts : List (List ℕ)) (after : Moment) (desks_after : List D) : Type 0 where
  pub made : RoundMade known trees workers listings faults taken before after desks desks_after
  pub entries_are : made.entries ≡ entries
  pub printed : texts ≡ map (λ entry. entry_text entry) made.entries

-- a round was run and kept, its lines were written, and what follows them was done
pub record RoundRun {D S : Type 0} (known : Type 0) (trees : Trees) (workers : ℕ) (listings faults : D → ℕ) (noted : Round → Type 0) (ends : S → WholeRound → Moment → S → Type 0) (taken : List ParsedLine) (before after : Moment) (desks desks_now : List D) (held held_now : S) : Type 0 where
  pub made : RoundMade known trees workers listings faults taken before after desks desks_now
  pub ended : (lines : Round) → noted lines → ends held (whole_round lines made.entries) after held_now

-- a round was run, and stopped somewhere after that
pub record RoundTorn {D S : Type 0} (known : Type 0) (trees : Trees) (workers : ℕ) (listings faults : D → ℕ) (noted : Round → Type 0) (may_stop : S → WholeRound → Moment → S → Type 0) (taken : List ParsedLine) (before : Moment) (desks desks_now : List D) (held held_now : S) : Type 0 where
  pub after : Moment
  pub made : RoundMade known trees workers listings faults taken before after desks desks_now
  pub stopped : (lines : Round) → noted lines → may_stop held (whole_round lines made.entries) after held_now

-- nothing of a round was written or kept, and no count of a desk fell
pub record RoundLost {D S : Type 0} (listings faults : D → ℕ) (desks desks_now : List D) (held held_now : S) : Type 0 where
  pub counts : DesksAtLeast listings faults 0 desks desks_now []
  pub unkept : held_now ≡ held

-- what is left of a round by this error
abbrev pub RoundStops : {D S : Type 0} → Type 0 → Trees → ℕ → (D → ℕ) → (D → ℕ) → (Round → Type 0) → (WriteError → S → WholeRound → Moment → S → Type 0) → List ParsedLine → Moment → List D → List D → S → S → WriteError → Type 0
RoundStops known trees workers listings faults noted may_stop taken before desks desks_now held held_now error.WriteFault =
    RoundTorn known trees workers listings faults noted (may_stop error.WriteFault) taken before desks desks_now held held_now
RoundStops known trees workers listings faults noted may_stop taken before desks desks_now held held_now error.NoMemory =
    RoundTorn known trees workers listings faults noted (may_stop error.NoMemory) taken before desks desks_now held held_now
    ⊎ RoundLost listings faults desks desks_now held held_now

-- one more round was carried out exactly if a layer was queued
pub record LastRun {D S : Type 0} (known : Type 0) (trees : Trees) (workers : ℕ) (listings faults : D → ℕ) (ends : S → WholeRound → Moment → S → Type 0) (before after : Moment) (desks desks_now : List D) (held held_now : S) : Type 0 where
  pub more : List WholeRound
  pub last : known → AreLastRounds (queued before.state.layers) trees workers before more after
  pub tags : AllByRecursion HasTag (entries_in more)
  pub counts : DesksCounted listings faults 0 desks desks_now (entries_in more)
  pub done : AreDone known trees workers ends before held more after held_now
