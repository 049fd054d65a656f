-- Which transcripts of the service are legal (defined by this project): the lines of the output are those of one round after
-- the other, and all together are one history of the machine.
use Rattle.std.specs.Prelude.{◌≡◌, ℕ, true, List, [], ◌∷◌, ◌++◌, Some}
use Rattle.std.specs.List.{AllByRecursion, flat_map}
use Rattle.cv_transcript.specs.Entry.{entry_json, entry_text}
use Rattle.cv_transcript.specs.Tag.{entry_tag, tag_of_json}
use Rattle.cv_transcript.specs.declared.entry.Entry.{Entry}
use Rattle.cv_core_machine.specs.Layers.{queued}
use Rattle.cv_core_machine.specs.Scans.{Trees}
use Rattle.cv_core_machine.specs.State.{State}
use Rattle.cv_serve_legal.specs.Replay.{Moment, beginning}
use Rattle.cv_serve_legal.specs.Round.{IsLegalRound}
use Rattle.cv_serve_legal.specs.Rounds.{Round, round_limits, rounds_of}

-- the output is the lines of entries: its bytes are theirs, and each line, read as JSON without its LF, has the tag of its
-- entry
pub record AreLines (output : List ℕ) (entries : List Entry) : Type 0 where
  pub text : output ≡ flat_map entry_text entries
  pub tags : AllByRecursion (λ entry. tag_of_json (entry_json entry) ≡ Some (entry_tag entry)) entries

-- the entries of rounds, one round after the other
abbrev pub AreLegalRounds : Trees → ℕ → Moment → List Round → List Entry → Moment → Type 0
AreLegalRounds trees workers before [] entries after = (entries ≡ []) × (after ≡ before)
AreLegalRounds trees workers before (round ∷ rounds) entries after =
    (between : Moment) × (first later : List Entry) × (entries ≡ first ++ later)
    × IsLegalRound trees workers before round first between × AreLegalRounds trees workers between rounds later after

-- the entries after the last round of the input: those of one more round, without lines, exactly if a layer is Queued
abbrev pub AreLast : List (List ℕ) → Trees → ℕ → Moment → List Entry → Moment → Type 0
AreLast [] trees workers before entries after = (entries ≡ []) × (after ≡ before)
AreLast (layer ∷ layers) trees workers before entries after = IsLegalRound trees workers before [] entries after

-- the entries of all rounds of an input, from one moment to another
pub record AreLegal (trees : Trees) (workers : ℕ) (before : Moment) (rounds : List Round) (entries : List Entry) (after : Moment) : Type 0 where
  pub between : Moment
  pub first : List Entry
  pub last : List Entry
  pub parts : entries ≡ first ++ last
  pub input : AreLegalRounds trees workers before rounds first between
  pub further : AreLast (queued between.state.layers) trees workers between last after

-- The output is a legal transcript of an input that was read to its end, by this number of workers over these layers. It goes on from
-- the moment before, and leads to this state. Its lines are numbered from 1, and its events from the next number on
pub record IsLegalFrom (trees : Trees) (before : Moment) (input output : List ℕ) (workers : ℕ) (state : State) : Type 0 where
  pub entries : List Entry
  pub lines : AreLines output entries
  pub after : Moment
  pub legal : AreLegal trees workers before (rounds_of round_limits input true) entries after
  pub reached : after.state ≡ state

-- the same of a service that begins
abbrev pub IsLegal : Trees → List ℕ → List ℕ → ℕ → State → Type 0
IsLegal trees input output workers state = IsLegalFrom trees beginning input output workers state
